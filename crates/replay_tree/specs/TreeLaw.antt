-- The proof that the tree over a guest's 32,768 lines keeps the law of versions.
use Rattle.std.proofs.Common.{◌≡◌, ℕ, is_ok, ◌<◌, ◌^◌, Option, Some, List, length, map, refl, sym, ◌∙◌, ap, arith, subst}
use Rattle.std.specs.Prelude.{IfSome}
use Rattle.line_ram.specs.Bytes.{HoldsRange}
use Rattle.line_ram.proofs.Ranges.{length-stored}
use Rattle.xom_versions.specs.Store.{area_size, hash_entry, line_limit}
use Rattle.xom_versions.specs.Versions.{RaisesInTheOpen, VersionLaw, start_version}
use Rattle.replay_tree.specs.Tree.{TreeStands, digest_of}
use Rattle.replay_tree.specs.Area.{area_bytes, level_offset, part_size}
use Rattle.replay_tree.specs.Paths.{index_at}
use Rattle.replay_tree.specs.Calls.{raised_in, ram_after_raise_in, texts_of_raise_in, top_level, tree, tree_raised, version_answer}
use Rattle.replay_tree.specs.CallLaws.{build-stands, raise-told, ram-answered, ram-torn, same-ram, size-raised, torn-root, version-told}
use Rattle.replay_tree.specs.PlaceLaws.{area_length, length-area}
use Rattle.replay_tree.specs.RaiseLaws.{hashed-longer, hashed-same}
use Rattle.replay_tree.specs.NodeLaws.{node-same}

area-size : area_length top_level ≡ area_size
unfolding level_offset part_size
area-size = refl

size-raised-in : (area : Option ℕ) (root : List ℕ) (line : ℕ) (ram : List ℕ)
    → IfSome area (λ at. HoldsRange ram at area_size) → line < line_limit
    → length (ram_after_raise_in top_level area root line ram) ≡ length ram
size-raised-in area root line ram held low =
    size-raised top_level area root line ram
    (subst (λ size. IfSome area (λ at. HoldsRange ram at size)) (sym area-size) held) low

some-same : (a b : ℕ) → Some a ≡ Some b → a ≡ b
some-same a b is = cc

-- a line whose block at the top is the first is one of the tree's
top-lines : (line : ℕ) → index_at top_level line ≡ 0 → line < line_limit
unfolding index_at
top-lines line is = grind arith

same-area : (area other : Option ℕ) (root also : List ℕ) (line : ℕ) (ram : List ℕ) → area ≡ other
    → is_ok (version_answer top_level (raised_in top_level) area root line ram) ≡ is_ok
    (version_answer top_level (raised_in top_level) other also line ram)
    → ram_after_raise_in top_level area root line ram ≡ ram_after_raise_in top_level other also line
    ram
same-area area other root also line ram same torn =
    subst (λ at. is_ok (version_answer top_level (raised_in top_level) area root line ram) ≡ is_ok
    (version_answer top_level (raised_in top_level) at also line ram)
    → ram_after_raise_in top_level area root line ram ≡ ram_after_raise_in top_level at also line
    ram) same (same-ram top_level area root also line ram) torn

-- the law of versions, of the tree
pub tree_law : VersionLaw tree (TreeStands top_level)
tree_law = record {
  builds = λ entries area lines ram few. build-stands top_level entries area lines;
  versions = λ entries store numbers line number ram stands low none is.
      version-told top_level store.area store.root entries numbers line number ram stands.root
      stands.hashed (stands.fields line low) low none is;
  raises = λ entries store numbers line number ram stands low none is.
      let raised = raise-told top_level store.area store.root entries numbers line number ram
      stands.root stands.hashed stands.fields low none is in
      (raised.next, record { root = raised.tree; hashed = raised.hashed; fields = raised.fields });
  torn = λ entries store numbers line ram fault stands low is. record {
    root = torn-root top_level store.area store.root line ram fault is ∙ stands.root;
    hashed = hashed-longer entries
        (map hash_entry (texts_of_raise_in top_level store.area store.root line ram)) numbers
        top_level 0 stands.hashed;
    fields = stands.fields;
  };
  longer = λ entries more store numbers stands. record {
    root = stands.root;
    hashed =
        hashed-longer entries more numbers top_level 0 stands.hashed;
    fields = stands.fields;
  };
  alike = λ entries store numbers others same stands.
      let lines : (line : ℕ) → index_at top_level line ≡ 0 → numbers line ≡ others line =
      λ line is. same line (top-lines line is) in
      record {
        root = stands.root ∙ ap (digest_of top_level) (node-same numbers others top_level 0 lines);
        hashed = hashed-same entries numbers others top_level 0 lines stands.hashed;
        fields = λ line low. subst (λ n. n < 2 ^ 64) (same line low) (stands.fields line low);
      };
  size_after_build = λ area lines ram held.
      let long = length-area top_level (start_version lines) in let whole = area-size in
      length-stored ram (area_bytes top_level (start_version lines)) area (omega arith);
  size_after_raise = λ store line ram held low. size-raised-in store.area store.root line ram held
      low;
  area_after_build = λ area lines kept ram is. sym (some-same area kept is);
  area_after_raise = λ store line ram. refl;
  ram_by_area = λ store other line ram same torn.
      same-area store.area other.area store.root other.root line ram same torn;
}

-- and hides nothing in RAM
pub tree_in_the_open : RaisesInTheOpen tree tree_raised
tree_in_the_open = record {
  done = λ store line number ram is. ram-answered top_level store.area store.root line number ram
      is;
  torn = λ store line ram fault is. ram-torn top_level store.area store.root line ram fault is;
  area = λ store line ram. refl;
}

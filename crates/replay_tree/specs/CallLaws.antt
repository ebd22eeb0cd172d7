-- The law of versions for trees of any height.
use Rattle.std.proofs.Common.{◌≡◌, inl, inr, ℕ, ◌-◌, ◌^◌, ◌<◌, ◌≤◌, Option, Some, None, Result, Ok, Err, is_ok, List, ◌++◌, length, map, refl, sym, ◌∙◌, ap, subst, arith}
use Rattle.std.specs.Prelude.{IfSome}
use Rattle.std.proofs.lemmas.Bool.Decides.{eqb_tells, nat_tests}
use Rattle.xom_base.specs.declared.entry.Entry.{Entry}
use Rattle.line_ram.specs.Bytes.{HoldsRange}
use Rattle.xom_versions.specs.declared.store.Torn.{Torn}
use Rattle.xom_versions.specs.Store.{NoCollision, hash_entry}
use Rattle.xom_versions.specs.Versions.{next_version, start_version, with_hashes, with_version}
use Rattle.replay_tree.specs.Tree.{AreHashed, TreeStands, digest_of, node, root_of, tree_lines}
use Rattle.replay_tree.specs.Area.{texts_up_to, width}
use Rattle.replay_tree.specs.Paths.{index_at, path_in}
use Rattle.replay_tree.specs.Calls.{in_area, new_ram, new_root, new_texts, raised_in, raised_ram_in, ram_after_raise_in, root_after_raise, texts_of_check, texts_of_raise_in, torn_in, torn_or, version_answer, version_at_line, version_texts}
use Rattle.replay_tree.specs.NodeLaws.{own-number, other-number, renewed-node}
use Rattle.replay_tree.specs.CheckLaws.{AreIn, added-are_in, checked-path, in-back, in-front, number-found, top-index}
use Rattle.replay_tree.specs.RaiseLaws.{hashed-longer, hashed-renewed}
use Rattle.replay_tree.specs.BuildLaws.{built-hashed}
use Rattle.replay_tree.specs.PlaceLaws.{area_length, length-block, length-ram_renewed}

-- ---- Answers

abbrev ok : ℕ → Result ℕ Torn
ok n = Ok n

same-ok : (a b : ℕ) → ok a ≡ ok b → a ≡ b
same-ok a b is = cc

not-torn : (torn : Option ℕ) (answer number : ℕ) → torn_or torn answer ≡ ok number → torn ≡ None
not-torn None answer number is = refl
not-torn (Some level) answer number is = absurd (cc)

answered : (torn : Option ℕ) (answer number : ℕ) → torn_or torn answer ≡ ok number → answer ≡ number
answered None answer number is = same-ok answer number is
answered (Some level) answer number is = absurd (cc)

-- ---- Build

start-fits : (lines line : ℕ) → start_version lines line < 2 ^ 64
start-fits lines line = grind (arith, nat_tests)

-- after a build the store stands for the start versions, and its blocks are in the journal
pub build-stands : (top : ℕ) (entries : List Entry) (area lines : ℕ)
    → TreeStands top (in_area (Some area) (root_of top (start_version lines)))
    (with_hashes entries (texts_up_to top (start_version lines) top)) (start_version lines)
build-stands top entries area lines =
    let numbers = start_version lines in let texts = texts_up_to top numbers top in
    record {
      root = refl;
      hashed = built-hashed (with_hashes entries texts) numbers top top 0 (omega arith)
          (let one : width top top ≡ 1 = ap (λ e. 8 ^ e) {x = top - top} {y = 0} (omega arith) in
          omega arith) (added-are_in entries texts);
      fields = λ line low. start-fits lines line;
    }

-- ---- The path of a check that isn't torn is the tree's

path-on_tree : (top area : ℕ) (root : List ℕ) (journal : List Entry) (numbers : ℕ → ℕ) (line : ℕ)
    (ram : List ℕ)
    → root ≡ root_of top numbers → AreHashed journal numbers top 0 → line < tree_lines top
    → NoCollision journal
    → AreIn journal (version_texts top root area line ram) → torn_in top root area line ram ≡ None
    → (below : ℕ) → below ≤ top
    → path_in top area ram line below ≡ node numbers below (index_at below line)
path-on_tree top area root journal numbers line ram is hashed low none seen fine =
    let first : 0 ≡ index_at top line = sym (top-index top line low) in
    checked-path (path_in top area ram line) numbers line journal top root none seen
    (subst (AreHashed journal numbers top) first hashed)
    (is ∙ ap (λ i. digest_of top (node numbers top i)) first) fine

-- a version that is answered is the line's number, unless two hashed texts have one digest
pub version-told : (top : ℕ) (area : Option ℕ) (root : List ℕ) (entries : List Entry)
    (numbers : ℕ → ℕ) (line number : ℕ) (ram : List ℕ)
    → root ≡ root_of top numbers → AreHashed entries numbers top 0 → numbers line < 2 ^ 64
    → line < tree_lines top
    → NoCollision (with_hashes entries (texts_of_check top area root line ram))
    → version_answer top (version_at_line top) area root line ram ≡ Ok number → number ≡ numbers line
version-told top None root entries numbers line number ram is hashed fits low none told =
    absurd (cc)
version-told top (Some area) root entries numbers line number ram is hashed fits low none told =
    let texts = version_texts top root area line ram in
    let fine = not-torn (torn_in top root area line ram) (version_at_line top area line ram) number
    told in
    let on = path-on_tree top area root (with_hashes entries texts) numbers line ram is
    (hashed-longer entries (map hash_entry texts) numbers top 0 hashed) low none
    (added-are_in entries texts) fine in
    sym (answered (torn_in top root area line ram) (version_at_line top area line ram) number told)
    ∙ number-found (path_in top area ram line) numbers line (on 0 (omega arith)) fits

-- ---- Raise

next-fits : (n : ℕ) → next_version n < 2 ^ 64
next-fits n = grind arith

with_version-fits : (numbers : ℕ → ℕ) (line number at : ℕ) → number < 2 ^ 64 → numbers at < 2 ^ 64
    → with_version numbers line number at < 2 ^ 64
with_version-fits numbers line number at new old = elim (eqb_tells at line) [
  | inl is ↦ subst (λ n. n < 2 ^ 64) (sym (own-number numbers line number at is.1)) new
  | inr differs ↦ subst (λ n. n < 2 ^ 64) (sym (other-number numbers line number at differs.1)) old
]

-- what a raise that is answered leaves
pub record Raises (top : ℕ) (root : List ℕ) (journal : List Entry) (numbers : ℕ → ℕ)
    (line number : ℕ) : Type 0 where
  pub next : number ≡ next_version (numbers line)
  pub tree : root ≡ root_of top (with_version numbers line number)
  pub hashed : AreHashed journal (with_version numbers line number) top 0
  pub fields : (at : ℕ) → at < tree_lines top → with_version numbers line number at < 2 ^ 64

-- with the version that is found in the leaf
raises-found : (top area : ℕ) (root : List ℕ) (journal : List Entry) (numbers : ℕ → ℕ) (line : ℕ)
    (ram : List ℕ)
    → root ≡ root_of top numbers → AreHashed journal numbers top 0
    → ((at : ℕ) → at < tree_lines top → numbers at < 2 ^ 64) → line < tree_lines top
    → NoCollision journal
    → AreIn journal (version_texts top root area line ram ++ new_texts top None area line ram)
    → torn_in top root area line ram ≡ None
    → Raises top (new_root top None root area line ram) journal numbers line
    (raised_in top area line ram)
raises-found top area root journal numbers line ram is hashed fields low none seen fine =
    let path : ℕ → List ℕ = path_in top area ram line in
    let number = raised_in top area line ram in
    let others : ℕ → ℕ = with_version numbers line number in
    let first = top-index top line low in
    let on = path-on_tree top area root journal numbers line ram is hashed low none
    (in-front journal (version_texts top root area line ram) (new_texts top None area line ram)
    seen) fine in
    let renewals = in-back journal (version_texts top root area line ram)
    (new_texts top None area line ram) seen in
    record {
      next = ap next_version (number-found path numbers line (on 0 (omega arith))
          (fields line low));
      tree = ap (digest_of top) (renewed-node path numbers line number top on ∙ ap (node others top)
          first);
      hashed = subst (AreHashed journal others top) first (hashed-renewed journal path numbers line
          number top on renewals (subst (AreHashed journal numbers top) (sym first) hashed));
      fields = λ at few. with_version-fits numbers line number at
          (next-fits (version_at_line top area line ram)) (fields at few);
    }

-- a raise that is answered leaves a store that stands for the numbers with the line's raised
pub raise-told : (top : ℕ) (area : Option ℕ) (root : List ℕ) (entries : List Entry)
    (numbers : ℕ → ℕ) (line number : ℕ) (ram : List ℕ)
    → root ≡ root_of top numbers → AreHashed entries numbers top 0
    → ((at : ℕ) → at < tree_lines top → numbers at < 2 ^ 64) → line < tree_lines top
    → NoCollision (with_hashes entries (texts_of_raise_in top area root line ram))
    → version_answer top (raised_in top) area root line ram ≡ Ok number
    → Raises top (root_after_raise top area root line ram)
    (with_hashes entries (texts_of_raise_in top area root line ram)) numbers line number
raise-told top None root entries numbers line number ram is hashed fields low none told =
    absurd (cc)
raise-told top (Some area) root entries numbers line number ram is hashed fields low none told =
    let fine : torn_in top root area line ram ≡ None = not-torn (torn_in top root area line ram)
    (raised_in top area line ram) number told in
    let same : raised_in top area line ram ≡ number = answered (torn_in top root area line ram)
    (raised_in top area line ram) number told in
    with_torn (torn_in top root area line ram) fine fine same none
  where
    texts_at : Option ℕ → List (List ℕ)
    texts_at torn = version_texts top root area line ram ++ new_texts top torn area line ram

    with_torn : (torn : Option ℕ) → torn ≡ None → torn_in top root area line ram ≡ None
        → raised_in top area line ram ≡ number
        → NoCollision (with_hashes entries (texts_at torn))
        → Raises top (new_root top torn root area line ram) (with_hashes entries (texts_at torn))
        numbers line number
    with_torn (Some level) is_none fine same none = absurd (cc)
    with_torn None is_none fine same none =
        let journal = with_hashes entries (texts_at None) in
        subst (Raises top (new_root top None root area line ram) journal numbers line) same
        (raises-found top area root journal numbers line ram is
        (hashed-longer entries (map hash_entry (texts_at None)) numbers top 0 hashed) fields low
        none (added-are_in entries (texts_at None)) fine)

-- a torn raise leaves the root
pub torn-root : (top : ℕ) (area : Option ℕ) (root : List ℕ) (line : ℕ) (ram : List ℕ) (fault : Torn)
    → version_answer top (raised_in top) area root line ram ≡ Err fault
    → root_after_raise top area root line ram ≡ root
torn-root top None root line ram fault is = refl
torn-root top (Some area) root line ram fault is = by_torn (torn_in top root area line ram) is
  where
    by_torn : (torn : Option ℕ) → torn_or torn (raised_in top area line ram) ≡ Err fault
        → new_root top torn root area line ram ≡ root
    by_torn None is = absurd (cc)
    by_torn (Some level) is = refl

-- ---- RAM

-- a raise keeps the length of RAM
pub size-raised : (top : ℕ) (area : Option ℕ) (root : List ℕ) (line : ℕ) (ram : List ℕ)
    → IfSome area (λ at. HoldsRange ram at (area_length top)) → line < tree_lines top
    → length (ram_after_raise_in top area root line ram) ≡ length ram
size-raised top None root line ram held low = refl
size-raised top (Some area) root line ram held low = by_torn (torn_in top root area line ram)
  where
    by_torn : (torn : Option ℕ) → length (new_ram top torn area line ram) ≡ length ram
    by_torn (Some level) = refl
    by_torn None =
        length-ram_renewed top area (path_in top area ram line) line (raised_in top area line ram)
        top ram held low (omega arith)
        (λ below few. length-block top area line below ram held low few)

-- two roots of which a raise accepts both or neither leave the same RAM
pub same-ram : (top : ℕ) (area : Option ℕ) (root other : List ℕ) (line : ℕ) (ram : List ℕ)
    → is_ok (version_answer top (raised_in top) area root line ram) ≡ is_ok
    (version_answer top (raised_in top) area other line ram)
    → ram_after_raise_in top area root line ram ≡ ram_after_raise_in top area other line ram
same-ram top None root other line ram same = refl
same-ram top (Some area) root other line ram same = by_torn (torn_in top root area line ram)
    (torn_in top other area line ram) same
  where
    number : ℕ
    number = raised_in top area line ram

    by_torn : (torn also : Option ℕ) → is_ok (torn_or torn number) ≡ is_ok (torn_or also number)
        → new_ram top torn area line ram ≡ new_ram top also area line ram
    by_torn None None same = refl
    by_torn (Some level) (Some other_level) same = refl
    by_torn None (Some level) same = absurd (cc)
    by_torn (Some level) None same = absurd (cc)

-- what a raise that is answered leaves in RAM is told by area, line and RAM
pub ram-answered : (top : ℕ) (area : Option ℕ) (root : List ℕ) (line number : ℕ) (ram : List ℕ)
    → version_answer top (raised_in top) area root line ram ≡ Ok number
    → ram_after_raise_in top area root line ram ≡ raised_ram_in top area line ram
ram-answered top None root line number ram is = refl
ram-answered top (Some area) root line number ram is =
    ap (λ torn. new_ram top torn area line ram) (not-torn (torn_in top root area line ram)
    (raised_in top area line ram) number is)

-- and a torn one leaves RAM as it was
pub ram-torn : (top : ℕ) (area : Option ℕ) (root : List ℕ) (line : ℕ) (ram : List ℕ) (fault : Torn)
    → version_answer top (raised_in top) area root line ram ≡ Err fault
    → ram_after_raise_in top area root line ram ≡ ram
ram-torn top None root line ram fault is = refl
ram-torn top (Some area) root line ram fault is = by_torn (torn_in top root area line ram) is
  where
    by_torn : (torn : Option ℕ) → torn_or torn (raised_in top area line ram) ≡ Err fault
        → new_ram top torn area line ram ≡ ram
    by_torn None is = absurd (cc)
    by_torn (Some level) is = refl

-- What a version store does whose numbers lie in hostile RAM, as a tree of hashes with its root on
-- chip.
use Rattle.std.specs.Prelude.{ℕ, ◌++◌, List, [], Option, Some, None, Result, Ok, Err, replicate}
use Rattle.line_ram.specs.Bytes.{ram_with_bytes}
use Rattle.xom_versions.specs.declared.store.Torn.{Torn}
use Rattle.xom_versions.specs.Store.{Store}
use Rattle.xom_versions.specs.Versions.{Raised, Versions, next_version, start_version}
use Rattle.replay_tree.specs.Area.{area_bytes, texts_up_to}
use Rattle.replay_tree.specs.Paths.{block_after_raise, checked_texts, path_in, ram_renewed, renewed_texts, torn_at, version_in_leaf}
use Rattle.replay_tree.specs.Tree.{digest_of, root_of}

-- the level of the one block without a parent, in a tree over 32,768 lines
abbrev pub top_level : ℕ
top_level = 4

-- a store of this area, and this root
abbrev pub in_area : Option ℕ → List ℕ → Store
in_area area root = record { numbers = []; area = area; root = root }

-- what a check finds, if it is torn, or the answer
abbrev pub torn_or : {A : Type 0} → Option ℕ → A → Result A Torn
torn_or (Some level) answer = Err (record { level = level })
torn_or None answer = Ok answer

-- ---- A store with an area

-- the level at which a line's path in RAM is torn, if it is torn
abbrev pub torn_in : ℕ → List ℕ → ℕ → ℕ → List ℕ → Option ℕ
torn_in top root area line ram = torn_at (path_in top area ram line) line top root

-- the version of a line, as its leaf in RAM has it
abbrev pub version_at_line : ℕ → ℕ → ℕ → List ℕ → ℕ
version_at_line top area line ram = version_in_leaf (path_in top area ram line) line

-- the next version of a line, after the one that its leaf in RAM has
abbrev pub raised_in : ℕ → ℕ → ℕ → List ℕ → ℕ
raised_in top area line ram = next_version (version_at_line top area line ram)

-- the texts that the check of a line's path in RAM hashes
abbrev pub version_texts : ℕ → List ℕ → ℕ → ℕ → List ℕ → List (List ℕ)
version_texts top root area line ram = checked_texts (path_in top area ram line) line top root

-- what a raise hashes beside what it checks, if the check isn't torn
abbrev pub new_texts : ℕ → Option ℕ → ℕ → ℕ → List ℕ → List (List ℕ)
new_texts top (Some level) area line ram = []
new_texts top None area line ram =
    renewed_texts (path_in top area ram line) line (raised_in top area line ram) top

-- the root after a raise: the digest of the new top block, or the old root where the check was torn
abbrev pub new_root : ℕ → Option ℕ → List ℕ → ℕ → ℕ → List ℕ → List ℕ
new_root top (Some level) root area line ram = root
new_root top None root area line ram =
    digest_of top (block_after_raise (path_in top area ram line) line (raised_in top area line ram) top)

-- RAM after a raise: the path's blocks renewed, or as it was where the check was torn
abbrev pub new_ram : ℕ → Option ℕ → ℕ → ℕ → List ℕ → List ℕ
new_ram top (Some level) area line ram = ram
new_ram top None area line ram =
    ram_renewed top area (path_in top area ram line) line (raised_in top area line ram) top ram

-- ---- Any store: one without an area is torn at the top, with nothing hashed

-- what a call answers: the number of the line, or the level at which its path is torn
abbrev pub version_answer : ℕ → (ℕ → ℕ → List ℕ → ℕ) → Option ℕ → List ℕ → ℕ → List ℕ → Result ℕ Torn
version_answer top number None root line ram = Err (record { level = top })
version_answer top number (Some area) root line ram =
    torn_or (torn_in top root area line ram) (number area line ram)

-- the texts that asking for a version hashes
abbrev pub texts_of_check : ℕ → Option ℕ → List ℕ → ℕ → List ℕ → List (List ℕ)
texts_of_check top None root line ram = []
texts_of_check top (Some area) root line ram = version_texts top root area line ram

-- the texts that a raise hashes: those of the check, then those of the new blocks
abbrev pub texts_of_raise_in : ℕ → Option ℕ → List ℕ → ℕ → List ℕ → List (List ℕ)
texts_of_raise_in top None root line ram = []
texts_of_raise_in top (Some area) root line ram =
    version_texts top root area line ram
    ++ new_texts top (torn_in top root area line ram) area line ram

-- the root that a raise leaves
abbrev pub root_after_raise : ℕ → Option ℕ → List ℕ → ℕ → List ℕ → List ℕ
root_after_raise top None root line ram = root
root_after_raise top (Some area) root line ram =
    new_root top (torn_in top root area line ram) root area line ram

-- RAM as a raise leaves it
abbrev pub ram_after_raise_in : ℕ → Option ℕ → List ℕ → ℕ → List ℕ → List ℕ
ram_after_raise_in top None root line ram = ram
ram_after_raise_in top (Some area) root line ram =
    new_ram top (torn_in top root area line ram) area line ram

-- the calls of a tree whose one block without a parent is at this level
abbrev pub tree_of : ℕ → Versions
tree_of top = record {
  blank_store = in_area None (replicate 32 0);
  store_after_build = λ area lines ram. in_area (Some area) (root_of top (start_version lines));
  ram_after_build = λ area lines ram. ram_with_bytes ram area (area_bytes top (start_version lines));
  texts_of_build = λ area lines ram. texts_up_to top (start_version lines) top;
  answer_of_version = λ store line ram. version_answer top (version_at_line top) store.area store.root line
      ram;
  texts_of_version = λ store line ram. texts_of_check top store.area store.root line ram;
  answer_of_raise = λ store line ram. version_answer top (raised_in top) store.area store.root line ram;
  store_after_raise = λ store line ram. record store {
    root = root_after_raise top store.area
        store.root line ram;
  };
  ram_after_raise = λ store line ram. ram_after_raise_in top store.area store.root line ram;
  texts_of_raise = λ store line ram. texts_of_raise_in top store.area store.root line ram;
}

-- the calls of the tree over a guest's 32,768 lines
abbrev pub tree : Versions
tree = tree_of top_level

-- RAM after a raise that was answered: the blocks of the line's path are renewed from those that
-- stand in the area
abbrev pub raised_ram_in : ℕ → Raised
raised_ram_in top None line ram = ram
raised_ram_in top (Some area) line ram = new_ram top None area line ram

-- RAM after an answered raise in the tree over a guest's 32,768 lines
abbrev pub tree_raised : Raised
tree_raised = raised_ram_in top_level

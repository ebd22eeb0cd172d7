-- Laws of the map from names to bytes.
use Rattle.std.proofs.Common.{◌≡◌, ◌≢◌, ℕ, List, [], ◌∷◌, map, cond, refl, sym, ap, ◌∙◌, string_bytes}
use Rattle.std.specs.Prelude.{Some, String}
use Rattle.std.specs.Ordering.{nat_cmp, eq_by_cmp}
use Rattle.std.specs.declared.cmp.Ordering.TheVariants.{Equal}
use Rattle.std.specs.Cmp.{eq_by_cmp_equiv}
use Rattle.std.specs.Cmp.Lexicographic.{slice_cmp, nat_list_cmp_total}
use Rattle.std.specs.FinMap.{find, get, insert, get-from_entries, get-insert, same_map, slice_cmp-IsAntisymmetric, nat_cmp-IsAntisymmetric}
use Rattle.std.specs.BTreeMap.{BTreeMap, get_by_text, Updates}
use Rattle.std.specs.Map.{lookup}
use Rattle.std.specs.String.{string_cmp}
use Rattle.std.specs.Str.{bytes_eq}
use Rattle.std.specs.declared.alloc.Global.{Global}
use Rattle.std.proofs.lemmas.Map.Text.{is_eq-slice_cmp, btree_map_updates_text, text_cmp}
use Rattle.std.specs.BTreeMap.{is_at}
use Rattle.std.proofs.lemmas.Bool.{false_from_ne_true}
use Rattle.std.proofs.lemmas.Map.Views.{tells_apart}
use Rattle.xom_io.specs.Names.{Named, names_of_map}

-- two names of the same bytes are one
same_name : (x y : List ℕ) → slice_cmp nat_cmp x y ≡ Equal → x ≡ y
same_name = slice_cmp-IsAntisymmetric nat_cmp-IsAntisymmetric

-- a name that was set has its bytes
pub get-insert_same : (names : Named) (name bytes : List ℕ)
    → get (insert names name bytes) name ≡ Some bytes
get-insert_same names name bytes =
    get-insert nat_list_cmp_total names name bytes name
    ∙ ap (λ same. cond same (Some bytes) (get names name))
    ((eq_by_cmp_equiv nat_list_cmp_total).refl name)

-- every other name has what it had
pub get-insert_other : (names : Named) (name bytes other : List ℕ) → other ≢ name
    → get (insert names name bytes) other ≡ get names other
get-insert_other names name bytes other differs =
    get-insert nat_list_cmp_total names name bytes other
    ∙ ap (λ same. cond same (Some bytes) (get names other))
    (false_from_ne_true _ (λ same. differs (tells_apart same_name other name same)))

-- the first entry with these bytes for its name, in either form
find-lookup : (q : List ℕ) (files : List (String Global × List ℕ))
    → find (slice_cmp nat_cmp) q (map (λ file. (string_bytes file.0, file.1)) files) ≡ lookup
    (is_at (text_cmp q)) files
find-lookup q [] = refl
find-lookup q (file ∷ files) =
    ap (cond (is_at (text_cmp q) file.0) (Some file.1)) (find-lookup q files)

-- the map has at each name what the ordered list has
pub get-named : (files : BTreeMap (String Global) (List ℕ)) (q : List ℕ)
    → get (names_of_map files) q ≡ get_by_text files q
get-named files q = get-from_entries nat_list_cmp_total _ q ∙ find-lookup q files.entries

-- two texts are compared alike from both sides
same_bytes : (q name : List ℕ) → bytes_eq name q ≡ eq_by_cmp (slice_cmp nat_cmp) q name
same_bytes q name = sym (is_eq-slice_cmp name q) ∙ (eq_by_cmp_equiv nat_list_cmp_total).symm name q

-- to set a name in the ordered list is to insert it into the map
pub named-insert : (old new : BTreeMap (String Global) (List ℕ)) (name : String Global)
    (bytes : List ℕ)
    → Updates string_cmp old new name (Some bytes)
    → names_of_map new ≡ insert (names_of_map old) (string_bytes name) bytes
named-insert old new name bytes updates =
    same_map nat_list_cmp_total same_name _ _ (λ q.
    get-named new q
    ∙ btree_map_updates_text (string_bytes name) old new (Some bytes) updates q
    ∙ ap (λ same. cond same (Some bytes) (get_by_text old q)) (same_bytes q (string_bytes name))
    ∙ ap (cond (eq_by_cmp (slice_cmp nat_cmp) q (string_bytes name)) (Some bytes))
    (sym (get-named old q))
    ∙ sym (get-insert nat_list_cmp_total (names_of_map old) (string_bytes name) bytes q))

-- for `grind`: what a map has after one name was set
pub ruleset after_set = (get-insert_same, get-insert_other)

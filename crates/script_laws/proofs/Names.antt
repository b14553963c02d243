-- Names are found again.
use Rattle.std.proofs.Common.{◌≡◌, ◌∙◌, ℕ, ◌<◌, ◌≤◌, List, [], ◌∷◌, length, get_or, Bool, true, false, ◌&&◌, ◌||◌, not, cond, ltb, Option, Some, None, IsTrue, refl, ap, sym, subst, arith}
use Rattle.std.specs.Char.{is_ascii_lowercase}
use Rattle.std.specs.Prelude.{nat_lt, position, codes, slice_get, slice_index_or, All}
use Rattle.std.specs.List.{AllPairs, position_or_len, list_all}
use Rattle.std.specs.Str.{bytes_eq}
use Rattle.std.proofs.lemmas.Bool.{and_parts}
use Rattle.std.proofs.lemmas.Bool.Decides.{nat_tests}
use Rattle.std.proofs.lemmas.List.Sums.{position_or_len_is}
use Rattle.std.proofs.lemmas.Option.{slice_get_within, get_or_from_slice_get}
use Rattle.std.proofs.lemmas.Slice.Eq.{bytes_eq-Decides}
use Rattle.weighting.specs.declared.profile.Profile.{Profile}
use Rattle.weighting.specs.Profiles.{profile_at}
use Rattle.plain_map.proofs.Splits.{Each, each_more}
use Rattle.script_text.specs.Commands.{place_in}
use Rattle.script_text.specs.Headers.{actor_in}
use Rattle.script_text.specs.Lines.{is_passed}
use Rattle.script_text.specs.Names.{is_name, is_formed, is_reserved, is_name_byte}
use Rattle.script_laws.proofs.Words.{IsGraphic}

pub same_bytes : (w : List ℕ) → bytes_eq w w ≡ true
same_bytes w = (bytes_eq-Decides w w).1 refl

graphic_byte : (b : ℕ) → is_name_byte b ≡ true → IsGraphic b
graphic_byte b h = record { above = grind (arith, nat_tests); ascii = grind (arith, nat_tests) }

graphic_bytes : (bytes : List ℕ) → list_all is_name_byte bytes ≡ true → Each IsGraphic bytes
graphic_bytes [] h = tt
graphic_bytes (b ∷ bytes) h = let k = and_parts (is_name_byte b) (list_all is_name_byte bytes) h in (graphic_byte b k.0, graphic_bytes bytes k.1)

-- what a name is
pub record IsWord (name : List ℕ) : Type 0 where
  pub graphic : Each IsGraphic name
  pub not_passed : is_passed name ≡ false
  pub not_sync : bytes_eq name (codes "sync") ≡ false
  pub not_profile : bytes_eq name (codes "profile") ≡ false
  pub not_journal : bytes_eq name (codes "journal") ≡ false
  pub not_actor : bytes_eq name (codes "actor") ≡ false
  pub is : is_name name ≡ true

neither : (a b c d : Bool) → not (a || b || c || d) ≡ true → (a ≡ false) × (b ≡ false) × (c ≡ false) × (d ≡ false)
neither false false false false e = (refl, refl, refl, refl)
neither true b c d e = cc
neither false true c d e = cc
neither false false true d e = cc
neither false false false true e = cc

formed : (name : List ℕ) → is_formed name ≡ true → Each IsGraphic name × (is_passed name ≡ false)
formed [] e = cc
formed (b ∷ bytes) e =
    let p = and_parts (is_ascii_lowercase b && nat_lt (length bytes) 16) (list_all is_name_byte bytes) e in
    let q = and_parts (is_ascii_lowercase b) (nat_lt (length bytes) 16) p.0 in
    let first : IsGraphic b = record { above = grind (arith, nat_tests, q.0); ascii = grind (arith, nat_tests, q.0) } in
    ((first, graphic_bytes bytes p.1), grind (arith, nat_tests, q.0))

pub word_of : (name : List ℕ) → IsTrue (is_name name) → IsWord name
unfolding is_name
word_of name h =
    let p = and_parts (is_formed name) (not (is_reserved name)) h in
    let f = formed name p.0 in
    let apart = neither (bytes_eq name (codes "sync")) (bytes_eq name (codes "profile")) (bytes_eq name (codes "journal")) (bytes_eq name (codes "actor")) p.1 in
    record { graphic = f.0; not_passed = f.1; not_sync = apart.0; not_profile = apart.1; not_journal = apart.2; not_actor = apart.3; is = h }

found : {X : Type 0} (p : X → Bool) (xs : List X) (k : ℕ) (d : X) → k < length xs → ((j : ℕ) → j < k → p (get_or xs j d) ≡ false) → p (get_or xs k d) ≡ true → position p xs ≡ Some k
found p xs k d lt before here =
    let at : position_or_len p xs ≡ k = position_or_len_is p xs k d (omega arith) before (λ _. here) in
    let test : ltb k (length xs) ≡ true = grind (arith, nat_tests) in
    rw (at, test) refl

-- of names that differ each is found at its place
pub actor_found : (actors : List (List ℕ)) (actor : ℕ) (name : List ℕ) → AllPairs (λ a b. bytes_eq a b ≡ false) actors → slice_get actors actor ≡ Some name → actor_in actors name ≡ Some actor
actor_found actors actor name differ at =
    let lt = slice_get_within actors actor name at in
    let is : get_or actors actor [] ≡ name = get_or_from_slice_get actors actor name [] at in
    found (λ (a : List ℕ). bytes_eq a name) actors actor [] lt
    (λ j less. subst (λ (w : List ℕ). bytes_eq (get_or actors j []) w ≡ false) is (differ j actor [] less lt))
    (rw is (same_bytes name))

pub profile_found : (profiles : List Profile) (k : ℕ) → AllPairs (λ (a b : Profile). bytes_eq a.name b.name ≡ false) profiles → k < length profiles → place_in profiles (profile_at profiles k).name ≡ Some k
profile_found profiles k differ lt =
    found (λ (a : Profile). bytes_eq a.name (profile_at profiles k).name) profiles k (profile_at [] 0) lt
    (λ j less. differ j k (profile_at [] 0) less lt)
    (same_bytes (profile_at profiles k).name)

-- What is used of a way.
use Rattle.std.specs.Ordering.{int_eq}
use Rattle.std.proofs.Common.{◌≡◌, ℕ, ◌<◌, ◌≤◌, ◌+◌, Bool, true, false, cond, leb, List, ℤ, [], ◌∷◌, ◌++◌, length, take, get_or, Some, None, sym, ap, ◌∙◌}
use Rattle.std.specs.List.{dedup, cons_option}
use Rattle.std.specs.Option.{option_map}
use Rattle.std.specs.List.Retain.{IsFiltered, DiffersFromLast}
use Rattle.std.proofs.lemmas.Bool.{le-leb, lt-leb}
use Rattle.std.proofs.lemmas.List.{take_more}
use Rattle.std.proofs.lemmas.List.Filters.{dedup_is}
use Rattle.std.proofs.lemmas.List.Elements.{filter_map-append}
use Rattle.gh_base.specs.declared.map.OsmWay.{OsmWay}
use Rattle.encoded_values.specs.Values.{TwoValues}
use Rattle.tag_rules.specs.Values.{values_by}
use Rattle.map_import.specs.Roads.{UsedWay, merged, used_of, used_ways, with_values}

pub merged_is : (refs slice xs ys : List ℤ) → slice ≡ refs → xs ≡ slice → IsFiltered (DiffersFromLast int_eq) [] xs ys → ys ≡ merged refs
merged_is refs slice xs ys e f h = dedup_is int_eq xs ys h ∙ ap (dedup int_eq) (f ∙ e)

pub is_short : (way : OsmWay) (refs : List ℤ) → refs ≡ merged way.refs → length refs < 2 → None ≡ used_of way
unfolding used_of
is_short way refs e h =
    let few : leb 2 (length (merged way.refs)) ≡ false = ap (λ (r : List ℤ). leb 2 (length r)) (sym e) ∙ lt-leb 2 (length refs) h in
    sym (ap (λ (b : Bool). cond b (option_map (with_values way) (values_by way.tags)) None) few)

long : (way : OsmWay) (refs : List ℤ) → refs ≡ merged way.refs → 2 ≤ length refs → used_of way ≡ option_map (with_values way) (values_by way.tags)
unfolding used_of
long way refs e h =
    let many : leb 2 (length (merged way.refs)) ≡ true = ap (λ (r : List ℤ). leb 2 (length r)) (sym e) ∙ le-leb 2 (length refs) h in
    ap (λ (b : Bool). cond b (option_map (with_values way) (values_by way.tags)) None) many

abbrev pub record_of : ℤ → List ℤ → TwoValues → UsedWay
record_of id refs values = record { id = id; refs = refs; values = values }

made : (a id : ℤ) (b refs : List ℤ) (values : TwoValues) → a ≡ id → b ≡ refs → record_of a b values ≡ record_of id refs values
made a id b refs values p q = ap (λ (x : ℤ). record_of x b values) p ∙ ap (λ (r : List ℤ). record_of id r values) q

pub is_used : (way : OsmWay) (id : ℤ) (refs : List ℤ) (values : TwoValues) → id ≡ way.id → refs ≡ merged way.refs → 2 ≤ length refs
    → values_by way.tags ≡ Some values → Some (record_of id refs values) ≡ used_of way
is_used way id refs values same e h some =
    ap (λ (w : UsedWay). Some w) (made id way.id refs (merged way.refs) values same e)
    ∙ sym (long way refs e h ∙ ap (option_map (with_values way)) some)

pub is_closed : (way : OsmWay) (refs : List ℤ) → refs ≡ merged way.refs → 2 ≤ length refs → values_by way.tags ≡ None → None ≡ used_of way
is_closed way refs e h none = sym (long way refs e h ∙ ap (option_map (with_values way)) none)

-- one way more
pub used_more : (ways : List OsmWay) (i : ℕ) (way : OsmWay) → i < length ways → way ≡ get_or ways i way
    → used_ways (take (i + 1) ways) ≡ used_ways (take i ways) ++ cons_option (used_of way) []
used_more ways i way h e =
    ap used_ways (take_more ways i way h) ∙ filter_map-append used_of (take i ways) (get_or ways i way ∷ [])
    ∙ ap (λ (w : OsmWay). used_ways (take i ways) ++ cons_option (used_of w) []) (sym e)

-- Where there is no offender each factor is at most 1, and the other way round.
use Rattle.std.proofs.Common.{◌≡◌, ℕ, ◌+◌, ◌≤◌, Bool, true, false, ◌&&◌, List, [], ◌∷◌, Option, Some, None, refl, arith, rules}
use Rattle.std.specs.Prelude.{IfSome, unwrap_or, ◌↔◌}
use Rattle.std.proofs.lemmas.Bool.Decides.{nat_tests}
use Rattle.gh_base.specs.declared.kinds.Part.{Part}
use Rattle.gh_base.specs.declared.kinds.Part.TheVariants.{Speed, Priority}
use Rattle.model_eval.specs.declared.custom_model.Statement.{Statement}
use Rattle.model_eval.specs.declared.custom_model.CustomModel.{CustomModel}
use Rattle.model_eval.specs.Slowing.{Offence, factor_of, is_at_most_one, is_slowing, are_slowing, IsSlow, first_of, offence_of, offender_among, low_influence, offender}

no_offence : (part : Part) (item : ℕ) (factor : Option ℕ) → offence_of part item factor ≡ None → is_at_most_one factor ≡ true
no_offence part item None e = refl
no_offence part item (Some c) e = grind (arith, nat_tests)

neither : (a b : Option Offence) → first_of a b ≡ None → (a ≡ None) × (b ≡ None)
neither None b e = (refl, e)
neither (Some a) b e = cc

and_both : (a b : Bool) → a ≡ true → b ≡ true → (a && b) ≡ true
and_both a b e f = rw e f

pub none_slows : (part : Part) (item : ℕ) (ss : List Statement) → offender_among part item ss ≡ None → are_slowing ss ≡ true
none_slows part item [] e = refl
none_slows part item (s ∷ ss) e =
    let p = neither (offence_of part item (factor_of s.action)) (offender_among part (item + 1) ss) e in
    and_both (is_slowing s) (are_slowing ss) (no_offence part item (factor_of s.action) p.0) (none_slows part (item + 1) ss p.1)

nothing_slows : (query : CustomModel) → offender_among Speed 1 query.speed ≡ None → offender_among Priority 1 query.priority ≡ None → IsSlow query
nothing_slows query e f = record { speed = none_slows Speed 1 query.speed e; priority = none_slows Priority 1 query.priority f }

-- where the first offender stands
pub in_speed : (profile query : CustomModel) (offence : Offence) → offender_among Speed 1 query.speed ≡ Some offence → offender profile query ≡ Some offence
unfolding offender
in_speed profile query offence e = rw e refl

pub in_priority : (profile query : CustomModel) (offence : Offence) → offender_among Speed 1 query.speed ≡ None → offender_among Priority 1 query.priority ≡ Some offence → offender profile query ≡ Some offence
unfolding offender
in_priority profile query offence e f = rw (e, f) refl

pub in_influence : (profile query : CustomModel) (offence : Option Offence) → offender_among Speed 1 query.speed ≡ None → offender_among Priority 1 query.priority ≡ None → low_influence profile.distance_influence query.distance_influence ≡ offence → offender profile query ≡ offence
unfolding offender
in_influence profile query offence e f g = rw (e, f) g

-- the other way round
small_factor : (part : Part) (item : ℕ) (factor : Option ℕ) → is_at_most_one factor ≡ true → offence_of part item factor ≡ None
small_factor part item None e = refl
small_factor part item (Some c) e = grind (arith, nat_tests)

both_true : (a b : Bool) → (a && b) ≡ true → (a ≡ true) × (b ≡ true)
both_true true b e = (refl, e)
both_true false b e = cc

slow_has_none : (part : Part) (item : ℕ) (ss : List Statement) → are_slowing ss ≡ true → offender_among part item ss ≡ None
slow_has_none part item [] e = refl
slow_has_none part item (s ∷ ss) e =
    let p = both_true (is_slowing s) (are_slowing ss) e in
    rw (small_factor part item (factor_of s.action) p.0) (slow_has_none part (item + 1) ss p.1)

influence_there : (profile query : Option ℕ) → low_influence profile query ≡ None → IfSome query (λ d. unwrap_or profile 0 ≤ d)
influence_there profile None e = search rules
influence_there profile (Some d) e = grind (arith, nat_tests)

influence_back : (profile query : Option ℕ) → IfSome query (λ d. unwrap_or profile 0 ≤ d) → low_influence profile query ≡ None
influence_back profile None h = refl
influence_back profile (Some d) h = grind (arith, nat_tests)

pub exact : (profile query : CustomModel) → (offender profile query ≡ None) ↔ (IsSlow query × IfSome query.distance_influence (λ d. unwrap_or profile.distance_influence 0 ≤ d))
unfolding offender
exact profile query = (
  λ e.
      let p = neither (offender_among Speed 1 query.speed) (first_of (offender_among Priority 1 query.priority) (low_influence profile.distance_influence query.distance_influence)) e in
      let q = neither (offender_among Priority 1 query.priority) (low_influence profile.distance_influence query.distance_influence) p.1 in
      (nothing_slows query p.0 q.0, influence_there profile.distance_influence query.distance_influence q.1),
  λ h. rw (slow_has_none Speed 1 query.speed h.0.speed, slow_has_none Priority 1 query.priority h.0.priority) (influence_back profile.distance_influence query.distance_influence h.1),
)

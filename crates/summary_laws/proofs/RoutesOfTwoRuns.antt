-- Queries between towers have answers of one weight over roads with the same towers and edges, in whatever order edges stand round a tower.
use Rattle.std.specs.Ordering.{int_eq}
use Rattle.std.proofs.Common.{◌≡◌, ℕ, ℤ, zero, suc, ◌≤◌, Bool, true, false, cond, List, [], ◌∷◌, Option, None, Some, refl, sym, ap, subst, ◌∙◌, inl, inr, arith}
use Rattle.std.specs.Prelude.{nat_le, slice_get}
use Rattle.std.specs.List.{AllByRecursion, IsDistinct}
use Rattle.std.proofs.lemmas.Bool.{false≢true, le-leb, lt-leb}
use Rattle.std.proofs.lemmas.Bool.Decides.{Decides-int_eq}
use Rattle.std.proofs.lemmas.Map.Keys.{IsDistinct-head, IsDistinct-tail}
use Rattle.std.proofs.lemmas.Option.{slice_get_within}
use Rattle.gh_base.specs.declared.edges.DirEdge.{DirEdge}
use Rattle.gh_base.specs.declared.edges.Hop.{Hop}
use Rattle.gh_base.specs.declared.query.Place.TheVariants.{Id}
use Rattle.gh_base.specs.declared.query.RouteAnswer.{RouteAnswer}
use Rattle.gh_base.specs.declared.query.RouteAnswer.TheVariants.{Labelled, NoNode, NoRoute, NoSnap, Walk, WeightOverflow}
use Rattle.base_graph.specs.Graphs.{IsGraph}
use Rattle.model_eval.specs.declared.custom_model.CustomModel.{CustomModel}
use Rattle.landmark_prep.specs.Preparations.{Preparation}
use Rattle.traffic_core.specs.declared.entry.Entry.{Entry}
use Rattle.traffic_core.specs.declared.spot.Spot.{Spot}
use Rattle.traffic_core.specs.declared.spot.Spot.TheVariants.{Inside, Tower}
use Rattle.traffic_core.specs.Answers.{Asked, IsLeastOf, IsMissing, IsRightAmong, IsRightAnswer, IsRightBetween, Plan, greatest_weight}
use Rattle.traffic_core.specs.History.{limit_after}
use Rattle.traffic_core.specs.Lands.{Land, rule_of}
use Rattle.traffic_core.specs.Laws.{weight_in}
use Rattle.traffic_core.specs.Places.{IsSpotOf}
use Rattle.script_text.specs.declared.reply.Reply.{Reply}
use Rattle.script_service.specs.Replying.{IsRightQuery, reply_of}
use Rattle.generated_run.specs.Summaries.{is_route, weight_of}
use Rattle.summary_laws.proofs.SameRoads.{walk_too, with_around}

one_of : (P : ℤ → Type 0) (xs : List ℤ) (i : ℕ) (x : ℤ) → AllByRecursion P xs → slice_get xs i ≡ Some x → P x
one_of P [] i x all e = absurd (omega (arith, slice_get_within [] i x e))
one_of P (y ∷ xs) zero x all e = let same : y ≡ x = cc in subst P same all.0
one_of P (y ∷ xs) (suc i) x all e = one_of P xs i x all.1 e

not_later : (x : ℤ) (xs : List ℤ) (i : ℕ) (id : ℤ) → AllByRecursion (λ y. int_eq x y ≡ false) xs → Some x ≡ Some id → slice_get xs i ≡ Some id → ⊥
not_later x xs i id all here later =
    let same : x ≡ id = cc in
    false≢true (sym (one_of (λ (y : ℤ). int_eq x y ≡ false) xs i id all later) ∙ (Decides-int_eq x id).1 same)

-- an id stands at one place
pub tower_once : (ids : List ℤ) (i j : ℕ) (id : ℤ) → IsDistinct int_eq ids → slice_get ids i ≡ Some id → slice_get ids j ≡ Some id → i ≡ j
tower_once [] i j id d a b = absurd (omega (arith, slice_get_within [] i id a))
tower_once (x ∷ ids) zero zero id d a b = refl
tower_once (x ∷ ids) zero (suc j) id d a b = absurd (not_later x ids j id (IsDistinct-head int_eq x ids d) a b)
tower_once (x ∷ ids) (suc i) zero id d a b = absurd (not_later x ids i id (IsDistinct-head int_eq x ids d) b a)
tower_once (x ∷ ids) (suc i) (suc j) id d a b = ap suc (tower_once ids i j id (IsDistinct-tail int_eq x ids d) a b)

-- what a weight, or none, says of walks
abbrev IsTold : (List Hop → Type 0) → Option ℕ → Type 0
IsTold IsSo None = (hops : List Hop) → IsSo hops → ⊥
IsTold IsSo (Some weight) = IsLeastOf IsSo weight

told : (IsSo : List Hop → Type 0) (plan : Plan) (mm_of : List Hop → ℕ) (towers : ℕ) (labels : Bool) (answer : RouteAnswer) → IsRightAmong IsSo plan mm_of towers labels answer → IsTold IsSo (weight_in answer)
told IsSo plan mm_of towers labels (NoNode id) h = absurd h
told IsSo plan mm_of towers labels (NoSnap point) h = absurd h
told IsSo plan mm_of towers labels (NoRoute settled) h = h.0
told IsSo plan mm_of towers labels (WeightOverflow weight) h = h.0
told IsSo plan mm_of towers labels (Walk weight mm settled hops) h = record { hops = hops; walk = h.1.walk; weight_is = h.1.weight_is; least = h.1.least }
told IsSo plan mm_of towers labels (Labelled weight list) h = h.1.least

at_most : (P Q : List Hop → Type 0) (a b : ℕ) → ((hops : List Hop) → Q hops → P hops) → IsLeastOf P a → IsLeastOf Q b → a ≤ b
at_most P Q a b too x y = subst (λ (n : ℕ). a ≤ n) y.weight_is (x.least y.hops (too y.hops y.walk))

told_both : (P Q : List Hop → Type 0) (a b : Option ℕ) → ((hops : List Hop) → P hops → Q hops) → ((hops : List Hop) → Q hops → P hops) → IsTold P a → IsTold Q b → a ≡ b
told_both P Q None None there back x y = refl
told_both P Q None (Some b) there back x y = absurd (x y.hops (back y.hops y.walk))
told_both P Q (Some a) None there back x y = absurd (y x.hops (there x.hops x.walk))
told_both P Q (Some a) (Some b) there back x y =
    let same : a ≡ b = omega (arith, at_most P Q a b back x y, at_most Q P b a there y x) in
    ap (λ (n : ℕ). Some n) same

abbrev pub asking : ℕ → CustomModel → ℤ → ℤ → Asked
asking profile model from to = record { profile = profile; model = model; from = Id from; to = Id to; labels = false }

-- the land with these directed edges round its towers
abbrev pub land_around : Land → List (List DirEdge) → Land
land_around land around = record { graph = with_around land.graph around; ids = land.ids; profiles = land.profiles }

module _ (land : Land) (around : List (List DirEdge)) (is : IsGraph land.graph) (also : IsGraph (with_around land.graph around)) (distinct : IsDistinct int_eq land.ids)
    (limits : DirEdge → ℕ) (profile : ℕ) (model : CustomModel) (from to : ℤ) (one other : Option Preparation) where
  abbrev mine : Asked
  mine = asking profile model from to

  between : (s t u v : Spot) (f g : ℕ → Option ℕ) (a b : RouteAnswer) → IsSpotOf land from (Some s) → IsSpotOf land to (Some t) → IsSpotOf land from (Some u) → IsSpotOf land to (Some v) →
      IsRightBetween land limits f mine s t a → IsRightBetween (land_around land around) limits g mine u v b → weight_in a ≡ weight_in b
  between (Inside e x) t u v f g a b at_s at_t at_u at_v p q = absurd at_s
  between (Tower n) (Inside e x) u v f g a b at_s at_t at_u at_v p q = absurd at_t
  between (Tower n) (Tower m) (Inside e x) v f g a b at_s at_t at_u at_v p q = absurd at_u
  between (Tower n) (Tower m) (Tower k) (Inside e x) f g a b at_s at_t at_u at_v p q = absurd at_v
  between (Tower n) (Tower m) (Tower k) (Tower l) f g a b at_s at_t at_u at_v p q =
      let first = tower_once land.ids n.0 k.0 from distinct at_s at_u in
      let second = tower_once land.ids m.0 l.0 to distinct at_t at_v in
      let here : IsRightBetween (land_around land around) limits g mine (Tower n) (Tower m) b =
      subst (λ (i : ℕ). IsRightBetween (land_around land around) limits g mine (Tower (record { 0 = i })) (Tower m) b) (sym first)
      (subst (λ (j : ℕ). IsRightBetween (land_around land around) limits g mine (Tower k) (Tower (record { 0 = j })) b) (sym second) q) in
      told_both _ _ (weight_in a) (weight_in b)
      (λ hops walk. walk_too land.graph around is also (rule_of land profile model) limits hops n.0 m.0 walk)
      (λ hops walk. walk_too (with_around land.graph around) land.graph.around also is (rule_of land profile model) limits hops n.0 m.0 walk)
      (told _ _ _ _ _ a p) (told _ _ _ _ _ b here)

  nowhere : (id : ℤ) (s : Spot) → IsSpotOf land id None → IsSpotOf land id (Some s) → ⊥
  nowhere id (Tower n) none some = none n.0 some
  nowhere id (Inside e x) none some = some

  missing_tells : (land : Land) (a : RouteAnswer) → IsMissing land mine a → weight_in a ≡ None
  missing_tells land a (inl h) = ap weight_in h.1
  missing_tells land a (inr h) = ap weight_in h.2

  pub tells : (a b : RouteAnswer) → IsRightAnswer land limits one mine a → IsRightAnswer (land_around land around) limits other mine b → weight_in a ≡ weight_in b
  tells a b (inl x) (inl y) = missing_tells land a x ∙ sym (missing_tells (land_around land around) b y)
  tells a b (inl (inl x)) (inr y) = absurd (nowhere from y.from x.0 y.from_is)
  tells a b (inl (inr x)) (inr y) = absurd (nowhere to y.to x.1 y.to_is)
  tells a b (inr x) (inl (inl y)) = absurd (nowhere from x.from y.0 x.from_is)
  tells a b (inr x) (inl (inr y)) = absurd (nowhere to x.to y.1 x.to_is)
  tells a b (inr x) (inr y) = between x.from x.to y.from y.to x.bound y.bound a b x.from_is x.to_is y.from_is y.to_is x.right y.right

-- what is told of a weight
abbrev told_weight : Option ℕ → ℕ
told_weight None = 0
told_weight (Some weight) = cond (nat_le weight greatest_weight) weight 0

abbrev told_route : Option ℕ → Bool
told_route None = false
told_route (Some weight) = nat_le weight greatest_weight

abbrev AreTold : RouteAnswer → Type 0
AreTold answer = (weight_of (reply_of answer) ≡ told_weight (weight_in answer)) × (is_route (reply_of answer) ≡ told_route (weight_in answer))

among_told : (IsSo : List Hop → Type 0) (plan : Plan) (mm_of : List Hop → ℕ) (towers : ℕ) (answer : RouteAnswer) → IsRightAmong IsSo plan mm_of towers false answer → AreTold answer
among_told IsSo plan mm_of towers (NoNode id) h = absurd h
among_told IsSo plan mm_of towers (NoSnap point) h = absurd h
among_told IsSo plan mm_of towers (NoRoute settled) h = (refl, refl)
among_told IsSo plan mm_of towers (WeightOverflow weight) h =
    let above : nat_le weight greatest_weight ≡ false = lt-leb weight greatest_weight h.1 in
    (rw above refl, sym above)
among_told IsSo plan mm_of towers (Walk weight mm settled hops) h =
    let within : nat_le weight greatest_weight ≡ true = le-leb weight greatest_weight h.1.within in
    (rw within refl, sym within)
among_told IsSo plan mm_of towers (Labelled weight list) h = absurd (let no : false ≡ true = h.0 in cc)

answer_told : (land : Land) (limits : DirEdge → ℕ) (guide : Option Preparation) (profile : ℕ) (model : CustomModel) (from to : ℤ) (answer : RouteAnswer) →
    IsRightAnswer land limits guide (asking profile model from to) answer → AreTold answer
answer_told land limits guide profile model from to answer (inl (inl h)) = subst AreTold (sym h.1) (refl, refl)
answer_told land limits guide profile model from to answer (inl (inr h)) = subst AreTold (sym h.2) (refl, refl)
answer_told land limits guide profile model from to answer (inr h) = among_told _ _ _ _ answer h.right

-- the replies tell one weight, or none
pub record TellAlike (said other : Reply) : Type 0 where
  pub weight : weight_of said ≡ weight_of other
  pub route : is_route said ≡ is_route other

pub queries_alike : (land : Land) (around : List (List DirEdge)) → IsGraph land.graph → IsGraph (with_around land.graph around) → IsDistinct int_eq land.ids → (profile : ℕ) (model : CustomModel) (from to : ℤ) (h k : List Entry) →
    limit_after land.graph h ≡ limit_after (with_around land.graph around) k → (said other : Reply) →
    IsRightQuery land h (asking profile model from to) said → IsRightQuery (land_around land around) k (asking profile model from to) other → TellAlike said other
queries_alike land around is also distinct profile model from to h k limits said other x y =
    let a = x.route.answer in
    let b = y.route.answer in
    let here : IsRightAnswer (land_around land around) (limit_after land.graph h) y.guide (asking profile model from to) b =
    subst (λ (l : DirEdge → ℕ). IsRightAnswer (land_around land around) l y.guide (asking profile model from to) b) (sym limits) y.route.right in
    let same = tells land around is also distinct (limit_after land.graph h) profile model from to x.guide y.guide a b x.route.right here in
    let first = answer_told land (limit_after land.graph h) x.guide profile model from to a x.route.right in
    let second = answer_told (land_around land around) (limit_after land.graph h) y.guide profile model from to b here in
    record {
      weight = ap weight_of x.route.printed ∙ first.0 ∙ ap told_weight same ∙ sym second.0 ∙ sym (ap weight_of y.route.printed);
      route = ap is_route x.route.printed ∙ first.1 ∙ ap told_route same ∙ sym second.1 ∙ sym (ap is_route y.route.printed);
    }

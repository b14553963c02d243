-- A listing between two nodes, from the landmark to the last one.
use Rattle.std.proofs.Common.{◌≡◌, ◌<◌, ◌≤◌, ◌+◌, ◌*◌, ◌/◌, ◌-◌, ℕ, Option, Some, None, List, [], ◌∷◌, ◌++◌, length, zero, suc, refl, sym, subst, ap, ◌∙◌, append_assoc, append-nil, arith}
use Rattle.std.proofs.lemmas.List.{length_push}
use Rattle.gh_base.specs.Networks.{Network, LeadsToNodes}
use Rattle.gh_base.specs.declared.edges.NodeId.{NodeId}
use Rattle.walk_rules.specs.Starts.{count_below}
use Rattle.search_queue.specs.Keys.{key_at}
use Rattle.prep_store.specs.declared.item.Item.{Item}
use Rattle.prep_store.specs.Evidence.{label_in}
use Rattle.prep_store.specs.Steps.{Listed}
use Rattle.prep_store.specs.Writing.{IsNext, IsListing}
use Rattle.prep_store.specs.Ordering.{is_new, IsOpen, IsUnderway}
use Rattle.prep_store.proofs.Lookups.{no_some}
use Rattle.prep_store.proofs.Candidates.{item_one, candidate_fits, least_next, less_new}

all_new : (nodes : ℕ) → count_below (is_new []) nodes ≡ nodes
all_new zero = refl
all_new (suc n) = omega (arith, all_new n)

-- what leaves the queue is the next item, which is one of the nodes and whose label isn't over the greatest
pub popped : {network : Network} {grain landmark : ℕ} {labels : ℕ → Option ℕ} {starts : ℕ} {listing : Listed} {keys : List (Option ℕ)} → IsUnderway network grain landmark labels starts listing keys → LeadsToNodes network → (item : Item) (node : NodeId) (key : ℕ) →
    key_at keys node.0 ≡ Some key → ((other k : ℕ) → key_at keys other ≡ Some k → key ≤ k) → item.node ≡ node → item.label ≡ key / 4294967296 → IsNext network grain labels listing.items item × (item.node.0 < network.nodes) × (item.label ≤ 65534)
popped {network} {grain} {landmark} {labels} {starts} {listing} {keys} u leads item node key found least n l =
    let q = u.keyed.each node.0 key found in
    let it = q.0 in
    let fits = candidate_fits network grain labels listing.items it leads q.1 in
    let label : key / 4294967296 ≡ it.label = quotient key it.label it.node.0 q.3 (omega (arith, fits.0, u.few)) in
    let same : it ≡ item = sym (item_one item it (ap (λ (k : NodeId). k.0) n ∙ sym q.2) (l ∙ label)) in (
      subst (IsNext network grain labels listing.items) same
          (least_next network grain labels listing.items keys it leads u.few u.keyed q.1 (λ other k e. subst (λ (x : ℕ). x ≤ k) q.3 (least other k e))),
      subst (λ (i : Item). i.node.0 < network.nodes) same fits.0,
      subst (λ (i : Item). i.label ≤ 65534) same fits.1,
    )
  where
    quotient : (k m r : ℕ) → k ≡ m * 4294967296 + r → r < 4294967296 → k / 4294967296 ≡ m
    quotient k m r e h = omega arith

-- the landmark
pub underway_first : (network : Network) (grain landmark : ℕ) (labels : ℕ → Option ℕ) (keys : List (Option ℕ)) (starts : ℕ) (first : Item) → network.nodes < 4294967296 → landmark < network.nodes → length keys ≡ network.nodes →
    starts ≡ 1 → first.node.0 ≡ landmark → first.label ≡ 0 → IsOpen network grain labels (first ∷ []) keys → IsUnderway network grain landmark labels starts (record { nodes = network.nodes; items = first ∷ [] }) keys
underway_first network grain landmark labels keys starts first few within long once node label o = record {
  few = few;
  nodes = refl;
  long = long;
  starts_are = once;
  counted = omega (arith, less_new [] first network.nodes (omega (arith, node)) refl, all_new network.nodes);
  keyed = o;
  front = λ rest next. (node, label, next);
}

-- one node more
pub underway_more : {network : Network} {grain landmark : ℕ} {labels : ℕ → Option ℕ} {starts : ℕ} {listing : Listed} {keys : List (Option ℕ)} (keys' : List (Option ℕ)) (starts' : ℕ) {item : Item} → IsUnderway network grain landmark labels starts listing keys →
    IsNext network grain labels listing.items item → item.node.0 < network.nodes → length keys' ≡ network.nodes → starts' ≡ starts + 1 → IsOpen network grain labels (listing.items ++ item ∷ []) keys' →
    IsUnderway network grain landmark labels starts' (record { nodes = listing.nodes; items = listing.items ++ item ∷ [] }) keys'
underway_more {network} {grain} {landmark} {labels} {starts} {listing} {keys} keys' starts' {item} u next within long once o =
    let longer = length_push listing.items item in
    record {
      few = u.few;
      nodes = u.nodes;
      long = long;
      starts_are = omega (arith, u.starts_are, once, longer);
      counted = omega (arith, u.counted, longer, less_new listing.items item network.nodes within next.candidate.new);
      keyed = o;
      front = λ rest more. subst (IsListing network grain landmark labels) (sym (append_assoc listing.items (item ∷ []) rest)) (u.front (item ∷ rest) (next, more));
    }

-- none is left
pub underway_end : {network : Network} {grain landmark : ℕ} {labels : ℕ → Option ℕ} {starts : ℕ} {listing : Listed} {keys : List (Option ℕ)} → IsUnderway network grain landmark labels starts listing keys →
    ((node : ℕ) → key_at keys node ≡ None) → IsListing network grain landmark labels listing.items
underway_end {network} {grain} {landmark} {labels} {starts} {listing} u none =
    subst (IsListing network grain landmark labels) (append-nil listing.items) (u.front [] (λ item c. no_some (sym (none item.node.0) ∙ u.keyed.all item c)))

-- fewer are left
pub fewer_left : (listed : List Item) (item : Item) (nodes : ℕ) → item.node.0 < nodes → label_in listed item.node.0 ≡ None → length listed + count_below (is_new listed) nodes ≡ nodes → nodes - length (listed ++ item ∷ []) < nodes - length listed
fewer_left listed item nodes within new counted = omega (arith, less_new listed item nodes within new, counted, length_push listed item)

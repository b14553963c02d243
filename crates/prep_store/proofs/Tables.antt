-- Lists that were read, one landmark after another.
use Rattle.std.specs.Prelude.{◌==◌}
use Rattle.std.specs.List.{AllZip}
use Rattle.std.proofs.Common.{◌≡◌, ℕ, ◌+◌, ◌<◌, ◌≤◌, false, All, Option, Some, None, unwrap_or, List, [], ◌∷◌, ◌++◌, map, length, take, drop, slice_index, slice_index_or, zero, suc, refl, sym, subst, ap, ◌∙◌, inl, inr, append_assoc, arith}
use Rattle.std.proofs.lemmas.List.{length-map, length-take-le, append-nil, get_or_past, get_or-map, take_more, map_push}
use Rattle.std.proofs.lemmas.List.Elements.{All-nil, All-push}
use Rattle.std.proofs.lemmas.Bool.{cases_lt}
use Rattle.std.proofs.lemmas.Bool.Decides.{nat_tests}
use Rattle.gh_base.specs.declared.edges.NodeId.{NodeId}
use Rattle.gh_base.specs.Networks.{Network}
use Rattle.walk_rules.proofs.Options.{some_or_none}
use Rattle.landmark_prep.specs.declared.labels.PackedLabels.{PackedLabels}
use Rattle.landmark_prep.specs.Packing.{unpacked, unpacked_labels, in_ms, AreLong}
use Rattle.landmark_prep.proofs.Keeping.{number_at}
use Rattle.prep_store.specs.declared.fault.PrepFault.{PrepFault}
use Rattle.prep_store.specs.declared.item.Item.{Item}
use Rattle.prep_store.specs.Evidence.{label_in, AreListed}
use Rattle.prep_store.specs.Stores.{list_text, Lists, lists_text, AreEvidence, AreOfLists}
use Rattle.prep_store.specs.FirstFaults.{FailsInPair, FailsInLists}
use Rattle.prep_store.specs.Readings.{Place, Takes, Fails}
use Rattle.prep_store.specs.Steps.{Listed, IsItem, number_in, AreRead}
use Rattle.prep_store.proofs.Telling.{fails_behind}
use Rattle.prep_store.proofs.Rows.{listed_within}

unpacked_of : (grain : ℕ) (label : Option ℕ) → ((l : ℕ) → label ≡ Some l → l < 65535) → unpacked grain (unwrap_or label 65535) ≡ in_ms grain label
unpacked_of grain None small = refl
unpacked_of grain (Some l) small = let less = small l refl in let f : (l == 65535) ≡ false = grind (arith, nat_tests) in rw f refl

-- a row that was kept has the labels of its list
pub row_listed : (nodes grain : ℕ) (items : List Item) (row : List ℕ) → length row ≡ nodes → ((node : ℕ) → node < nodes → slice_index row node ≡ number_in items node) → All (IsItem nodes) items → AreListed nodes grain items (map (unpacked grain) row)
row_listed nodes grain items row long each are = record {
  long = length-map row (unpacked grain) ∙ long;
  each = λ node. elim (cases_lt node nodes) [
    | inl l ↦
        number_at grain row node (omega (arith, long)) ∙ (ap (unpacked grain) (each node l)
        ∙ unpacked_of grain (label_in items node) (λ label e. (listed_within nodes items node label are e).1))
    | inr past ↦
        let none : label_in items node ≡ None = elim (some_or_none (label_in items node)) [
          | inr n ↦ n
          | inl s ↦ absurd (omega (arith, past, (listed_within nodes items node s.0 are s.1).0))
        ] in
        get_or_past (map (unpacked grain) row) node None (omega (arith, length-map row (unpacked grain), long)) ∙ sym (ap (in_ms grain) none)
  ];
}

pub zip_long : {A B : Type 0} (R : A → B → Type 0) (xs : List A) (ys : List B) → AllZip R xs ys → length ys ≡ length xs
zip_long R [] [] z = refl
zip_long R [] (y ∷ ys) z = absurd z
zip_long R (x ∷ xs) [] z = absurd z
zip_long R (x ∷ xs) (y ∷ ys) z = let rest = zip_long R xs ys z.1 in omega (arith, rest)

zip_push : {A B : Type 0} (R : A → B → Type 0) (xs : List A) (ys : List B) (x : A) (y : B) → AllZip R xs ys → R x y → AllZip R (xs ++ x ∷ []) (ys ++ y ∷ [])
zip_push R [] [] x y h r = (r, tt)
zip_push R [] (b ∷ ys) x y h r = absurd h
zip_push R (a ∷ xs) [] x y h r = absurd h
zip_push R (a ∷ xs) (b ∷ ys) x y h r = (h.0, zip_push R xs ys x y h.1 r)

pub lists_push : (ls : List Lists) (l : Lists) → lists_text (ls ++ l ∷ []) ≡ lists_text ls ++ (list_text l.from ++ list_text l.to)
lists_push [] l = ap (λ (bs : List ℕ). list_text l.from ++ bs) (append-nil (list_text l.to))
lists_push (k ∷ ls) l =
    ap (λ (bs : List ℕ). list_text k.from ++ (list_text k.to ++ bs)) (lists_push ls l)
    ∙ (ap (λ (bs : List ℕ). list_text k.from ++ bs) (sym (append_assoc (list_text k.to) (lists_text ls) (list_text l.from ++ list_text l.to)))
    ∙ sym (append_assoc (list_text k.from) (list_text k.to ++ lists_text ls) (list_text l.from ++ list_text l.to)))

-- one more landmark
pub read_push : (network back : Network) (grain : ℕ) (landmarks : List ℕ) (lists : List Lists) (table : List PackedLabels) (landmark : ℕ) (l : Lists) (labels : PackedLabels) → AreRead network back grain landmarks lists table →
    AreEvidence network back grain landmark l → AreListed network.nodes grain l.from (map (unpacked grain) labels.from) → AreListed network.nodes grain l.to (map (unpacked grain) labels.to) → AreLong network.nodes labels →
    AreRead network back grain (landmarks ++ landmark ∷ []) (lists ++ l ∷ []) (table ++ labels ∷ [])
read_push network back grain landmarks lists table landmark l labels read evidence from to long = record {
  evidence = zip_push (AreEvidence network back grain) landmarks lists landmark l read.evidence evidence;
  labels = subst (λ ts. AllZip (AreOfLists network.nodes grain) (lists ++ l ∷ []) ts) (sym (map_push (unpacked_labels grain) table labels))
      (zip_push (AreOfLists network.nodes grain) lists (map (unpacked_labels grain) table) l (unpacked_labels grain labels) read.labels (record { from = from; to = to }));
  long = All-push (AreLong network.nodes) table labels read.long long;
}

abbrev pub numbers : List NodeId → List ℕ
numbers nodes = map (λ node. node.0) nodes

pub numbers_next : (nodes : List NodeId) (place : ℕ) (d : NodeId) → place < length nodes → take (place + 1) (numbers nodes) ≡ take place (numbers nodes) ++ (slice_index_or nodes place d).0 ∷ []
numbers_next nodes place d l = take_more (numbers nodes) place 0 (omega (arith, length-map nodes (λ (node : NodeId). node.0)))
    ∙ ap (λ (n : ℕ). take place (numbers nodes) ++ n ∷ []) (get_or-map (λ (node : NodeId). node.0) nodes place d 0 l)

pub numbers_split : (nodes : List NodeId) (place : ℕ) (d : NodeId) → place < length nodes → numbers nodes ≡ take place (numbers nodes) ++ (slice_index_or nodes place d).0 ∷ drop (suc place) (numbers nodes)
numbers_split [] place d l = absurd (omega arith)
numbers_split (x ∷ nodes) zero d l = refl
numbers_split (x ∷ nodes) (suc place) d l = ap (λ (ns : List ℕ). x.0 ∷ ns) (numbers_split nodes place d (omega arith))

pub numbers_long : (nodes : List NodeId) (place : ℕ) → place ≤ length nodes → length (take place (numbers nodes)) ≡ place
numbers_long nodes place within = length-take-le place (numbers nodes) (omega (arith, length-map nodes (λ (node : NodeId). node.0)))

-- the lists of the landmark at a place fail behind those of others
pub pair_fails : {a b c : Place} {fault : PrepFault} (network back : Network) (grain : ℕ) (nodes : List NodeId) (place : ℕ) (d : NodeId) (lists : List Lists) (table : List PackedLabels) → place < length nodes →
    AreRead network back grain (take place (numbers nodes)) lists table → Takes a b (lists_text lists) → Fails (FailsInPair network back grain (slice_index_or nodes place d).0 place) b c fault → Fails (FailsInLists network back grain (numbers nodes)) a c fault
pair_fails {a} {b} {c} {fault} network back grain nodes place d lists table within read taken failed = fails_behind taken failed (λ total rest after e f. record {
  before = take place (numbers nodes);
  landmark = (slice_index_or nodes place d).0;
  later = drop (suc place) (numbers nodes);
  landmarks_are = numbers_split nodes place d within;
  right = lists;
  evidence = read.evidence;
  after = after;
  bytes = e;
  fails = subst (λ (n : ℕ). FailsInPair network back grain (slice_index_or nodes place d).0 n total after fault) (sym (numbers_long nodes place (omega arith))) f;
})

pub none_read : (network back : Network) (grain : ℕ) → AreRead network back grain [] [] []
none_read network back grain = record { evidence = tt; labels = tt; long = All-nil (AreLong network.nodes) }

-- a listing's row has the labels of its items
pub listing_listed : (nodes grain : ℕ) (l : Listed) (row : List ℕ) → length row ≡ l.nodes → ((node : ℕ) → node < l.nodes → slice_index row node ≡ number_in l.items node) → All (IsItem l.nodes) l.items → l.nodes ≡ nodes → AreListed nodes grain l.items (map (unpacked grain) row)
listing_listed nodes grain l row long each are e = subst (λ (n : ℕ). AreListed n grain l.items (map (unpacked grain) row)) e (row_listed l.nodes grain l.items row long each are)

-- What replies come to, one more at a time.
use Rattle.std.proofs.Common.{◌≡◌, ◌∙◌, ℕ, ◌+◌, ◌<◌, cond, List, [], ◌∷◌, ◌++◌, length, get_or, take, ap, sym, zero-add}
use Rattle.std.specs.List.{sum_by}
use Rattle.std.proofs.lemmas.List.{map-append, take_more}
use Rattle.std.proofs.lemmas.List.Sums.{sum_by-append}
use Rattle.script_text.specs.declared.reply.Reply.{Reply}
use Rattle.script_service.specs.declared.actor.Heard.{Heard}
use Rattle.script_service.specs.Collecting.{replies_heard}
use Rattle.generated_run.specs.declared.summing.Summary.{Summary}
use Rattle.generated_run.specs.Summaries.{is_route, landmarks_of, summary_from, weight_of, with_reply}

one_more : (f : Reply → ℕ) (said : List Reply) (one : Reply) → sum_by f (said ++ one ∷ []) ≡ sum_by f said + f one
one_more f said one = sum_by-append f said (one ∷ []) ∙ ap (λ n. sum_by f said + n) (zero-add (f one))

same_summary : (nodes edges entries l m r s v w : ℕ) → l ≡ m → r ≡ s → v ≡ w →
    (let a : Summary = record { nodes = nodes; edges = edges; landmarks = l; routes = r; entries = entries; weight = v } in
    let b : Summary = record { nodes = nodes; edges = edges; landmarks = m; routes = s; entries = entries; weight = w } in a ≡ b)
same_summary nodes edges entries l m r s v w e f g = cc

replied : (nodes edges entries : ℕ) (said : List Reply) (one : Reply) → summary_from nodes edges (said ++ one ∷ []) entries ≡ with_reply (summary_from nodes edges said entries) one
replied nodes edges entries said one =
    same_summary nodes edges entries _ _ _ _ _ _ (one_more landmarks_of said one) (one_more (λ (reply : Reply). cond (is_route reply) 1 0) said one) (one_more weight_of said one)

pub summary_more : (nodes edges entries : ℕ) (heard : List Heard) (i : ℕ) (one : Heard) → i < length heard → one ≡ get_or heard i one →
    summary_from nodes edges (replies_heard (take (i + 1) heard)) entries ≡ with_reply (summary_from nodes edges (replies_heard (take i heard)) entries) one.told.reply
summary_more nodes edges entries heard i one below is =
    ap (λ (l : List Reply). summary_from nodes edges l entries)
    (ap replies_heard (take_more heard i one below ∙ ap (λ (h : Heard). take i heard ++ h ∷ []) (sym is)) ∙ map-append (λ (h : Heard). h.told.reply) (take i heard) (one ∷ []))
    ∙ replied nodes edges entries (replies_heard (take i heard)) one.told.reply

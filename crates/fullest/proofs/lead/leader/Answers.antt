use Rattle.std.proofs.Common.{◌≡◌, map, rules, sym, ap, ◌∙◌}
use Rattle.std.specs.List.{filter, reduce, range_with_len}
use Rattle.envelope.specs.Lead.{leader_of}
use Rattle.fullest.proofs.Beaten.{leads}
use Rattle.fullest.proofs.Runs.{counted, reduced, leading, standing, led_by_chain}
use Rattle.fullest.proofs.lead.leader.Goals as goal

pub returns : goal.returns
unfolding leader_of
returns g c =
    let before = g.F.Family.before c.args.family.now in
    let cards = g.F.CardSlots.slots c.args.family.now in
    let t = c.args.t in
    let (p, from, whole, reduces) = c.reduce.ensures.runs in
    let (q, start, filters) = c.filter.ensures.runs p p.seen from in
    let kept : p.items ≡ filter (standing before cards t) q.items = filters.4 (standing before cards t) (search rules) in
    let all : q.items ≡ map (λ k. k) (range_with_len 0 256) = counted q 256 (search rules) (search rules) (search rules) (search rules) in
    let told = reduced p _ _ (leading before cards t) _ (search rules) reduces ∙ ap (reduce (leading before cards t)) (kept ∙ ap (filter (standing before cards t)) all) ∙ led_by_chain before cards t 256 in
    record { told = told; leads = leads before (g.met.F.Family.ordered c.args.family.now) cards t c.reduce.result (sym told) }

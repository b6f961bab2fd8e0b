use Rattle.std.proofs.Common.{rules, Some, ◌≡◌, ℕ, unwrap_or, ◌∙◌, arith}
use Rattle.fullest.specs.Lasting.{Lasting}
use Rattle.envelope.specs.Lead.{every_slot, Ahead}
use Rattle.fullest.proofs.Beaten.{leads, leads_on}
use Rattle.fullest.proofs.Runs.{counts, least}
use Rattle.fullest.proofs.lead.Lead.end.Goals as goal

pub returns : goal.returns
returns g c =
    let l = c.args.self.now in
    let before = g.F.Family.before l.family.now in
    let cards = g.F.CardSlots.slots l.family.now in
    let leader = leads before (g.met.F.Family.ordered l.family.now) cards l.since.number (Some l.slot) l.leads in
    let (p, from, whole, picks) = c.min.ensures.runs in
    let (q, start, maps) = c.map.ensures.runs p p.seen from in
    let (len, at) = counts q 256 (search rules) (search rules) (search rules) (search rules) in
    let ahead : ℕ → ℕ → Type 0 = λ k e. Lasting (λ v. Ahead before cards every_slot v l.slot k) l.since.number e in
    let (all, some) = least p q _ ahead 256 c.min.result 1000000 (omega arith) (maps.1 ∙ len) at (maps.2 (search rules)) (λ k e called. search rules) picks in
    let value : c.unwrap_or.result ≡ unwrap_or c.min.result 1000000 = search rules in
    rw value (leads_on before cards l.slot l.since.number (unwrap_or c.min.result 1000000) leader.0 all some)

use Rattle.std.proofs.Common.{refl}
use Rattle.std.proofs.lemmas.Result.{IfOk-weaker}
use Rattle.fullest.proofs.Told.{chart_of}
use Rattle.fullest.proofs.chart.stretches.Goals as goal

pub returns : goal.returns
returns g c =
    IfOk-weaker c.collect.result _ _
    (λ v (ss, drains, (items, _)). rw items (chart_of g.F.Family.before g.F.CardSlots.slots g.F.Priced.amount (λ s. s.family.now) (λ s. s.first) _ ss drains refl))
    c.collect.ensures.ran

use Rattle.std.proofs.Common.{sym, ap, ◌∙◌, subst}
use Rattle.cell_words.proofs.Names.{CanResume, carried_in}
use Rattle.cell_words.proofs.ResumeLemmas.{nothing_to_resume, nothing_carried, resumed_new}
use Rattle.cell_words.proofs.countdown.Countdown.make.Goals as goal

pub opened-requires-clause-can : goal.opened-requires-clause-can
opened-requires-clause-can c = subst (CanResume c.args.plan) (sym c.in-Ok.ensures) (nothing_to_resume c.args.plan)

pub returns-in-Ok-opened-clause-seats : goal.returns-in-Ok-opened-clause-seats
returns-in-Ok-opened-clause-seats c = λ k d l. resumed_new _ _ k _ (ap carried_in c.in-Ok.ensures ∙ nothing_carried) (c.in-Ok-opened.ensures.seats k d l)

pub returns-in-Ok-opened-clause-carried : goal.returns-in-Ok-opened-clause-carried
returns-in-Ok-opened-clause-carried c = c.in-Ok-opened.ensures.carried ∙ ap carried_in c.in-Ok.ensures ∙ nothing_carried

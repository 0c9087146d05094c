use Rattle.reply_check.{specs.Sent.{WasSent}, proofs.{Deciding.{IsTrue-false_iff}, SentLemmas.{WasSent-iff_fits, WasSent-no_name}}}
use Rattle.std.proofs.{Common.{IsTrue, ◌↔◌}, lemmas.Result.{IfOk-weaker}}
use Rattle.reply_check.proofs.header.was_sent.Goals as goal

pub returns-in-Some-clause-value : goal.returns-in-Some-clause-value
returns-in-Some-clause-value c =
    let found = rw c.name.ensures at c.in-Some.ensures in
    let fits = rw c.value.ensures at c.value_fits.ensures.value in
    IfOk-weaker c.value_fits.result _ (λ b. IsTrue b ↔ WasSent c.args.rules.now c.args.sent.now c.args.expected.now)
    (λ b h. WasSent-iff_fits c.args.rules.now c.args.sent.now c.args.expected.now c.in-Some.header.now b c.requires found h) fits

pub returns-in-None-clause-value : goal.returns-in-None-clause-value
returns-in-None-clause-value c =
    let none = rw c.name.ensures at c.in-None.ensures in
    IsTrue-false_iff (WasSent-no_name c.args.rules.now c.args.sent.now c.args.expected.now none)

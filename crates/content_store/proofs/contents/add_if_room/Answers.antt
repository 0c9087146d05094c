use Rattle.std.proofs.Common.{◌≡◌, ℕ, List, Ok, Err, Some, true, false, sym, subst, ◌∙◌}
use Rattle.sqlite.specs.Held.{state}
use Rattle.sha2.specs.Sha256.{sha256}
use Rattle.table_access.proofs.CallLemmas.{CallsBetween-then_Ok, CallsBetween-then_call}
use Rattle.broker_core.specs.{Text.{Text}, Limit.{has_room}}
use Rattle.content_store.{specs.Contents.{ContentsBy, IsPut, is_among, hex_of}, proofs.TextNumbers.{has_room-of_count}}
use Rattle.content_store.proofs.Held.{Holds-ContentsBy, FailsByStoreUnlessBetween-then}
use Rattle.content_store.proofs.contents.add_if_room.Goals as goal

pub returns-in-Ok-add_after-clause-call : goal.returns-in-Ok-add_after-clause-call
returns-in-Ok-add_after-clause-call g c =
    let old = state g.S.Store c.args.conn.now in
    let new = state g.S.Store c.add_after.new.conn in
    CallsBetween-then_Ok _ _ c.in-Ok-add_after.value (Some c.in-Ok-add_after.value)
    (λ number. (by : Text → Text) → by c.args.body.now ≡ c.args.digest.now → (texts : List Text) → ContentsBy by old.now texts → is_among texts c.args.body.now ≡ false
    → (has_room texts ≡ true) × IsPut by c.args.body.now texts number old.now new.now) _ (λ h. h)
    (CallsBetween-then_call _ _ _ c.in-Ok.value (Ok c.in-Ok-add_after.value) _ _ _
    (λ one number two by is texts held free.
    let read = one by texts held in (
      has_room-of_count texts c.in-Ok.value c.room.result c.room.ensures read.0 ∙ c.if-room.true,
      subst (λ d. IsPut by c.args.body.now texts number d new.now) read.1
          (two by is texts (subst (λ d. ContentsBy by d texts) (sym read.1) held) free read.0),
    ))
    c.in-Ok.ensures.call c.in-Ok-add_after.ensures.call)

pub returns-in-Err-add_after-clause-failure : goal.returns-in-Err-add_after-clause-failure
returns-in-Err-add_after-clause-failure g c =
    FailsByStoreUnlessBetween-then {B = ℕ} _ _ _ c.in-Ok.value (Err c.in-Err-add_after.fault) _ _ _ _ _ c.in-Ok.ensures.call c.in-Err-add_after.ensures.call
    (λ read s held allowed. let returned = read (hex_of sha256) s.contents (Holds-ContentsBy _ s held) in
    ((returned.0, has_room-of_count s.contents c.in-Ok.value c.room.result c.room.ensures returned.0 ∙ c.if-room.true), returned.1)) c.in-Err-add_after.ensures.failure

-- worked examples of sessions: one is stopped in a command, and the next one begins with that command again
use Rattle.std.{specs.Prelude.{Some, None}, proofs.Common.{refl, inl, inr, List, [], ◌∷◌}}
use Rattle.broker_core.specs.{declared.policy.Caller.TheVariants.{Team}, declared.command.Command.TheVariants.{PutPact, PutVersion}}
use Rattle.broker_core.specs.{declared.answer.Answer.{Answer}, declared.answer.Answer.TheVariants.{Done, Already}}
use Rattle.broker_core.specs.{declared.answer.Detail.TheVariants.{Plain, Content}, Text.{version}, State.{State}, Change.{put_version}}
use Rattle.broker_core.specs.{Machine.{Request, Run, Step}, Machine.Reading.{IsPact}, Laws.{Exit, LeavesSessions, ComeAgain, sessions_of, all_answered}}
use Rattle.broker_core.specs.Laws.Exit.{Stepped, WasCut}
use Rattle.broker_core.proofs.Fixture.{red_token-not_office, simple_parts, shop, stock, red_token, red, one, two, first_file, path_of, fixture, published}

-- red publishes the pact of shop 1, and then names shop 2
abbrev pub publishes : Request
publishes = record { token = Some red_token; command = PutPact (path_of one) first_file }

abbrev pub names : Request
names = record { token = Some red_token; command = PutVersion (version shop two) None }

abbrev pub named_too : State
named_too = (put_version published (version shop two) None).state

-- the program is stopped as it names shop 2; in the next session red names it again, and is answered so
abbrev pub asked_again : Answer → List (List (Request × Exit))
asked_again answer = ((publishes, Stepped (Done (Content 1))) ∷ (names, WasCut) ∷ []) ∷ ((names, Stepped answer) ∷ []) ∷ []

Step-published_first : Step simple_parts fixture publishes.token publishes.command (record { answer = Done (Content 1); state = published })
Step-published_first = (Some (Team red), (red_token-not_office, refl), (None, (IsPact shop stock first_file, refl, refl), (first_file, refl, refl)))

Step-named_then : Step simple_parts published names.token names.command (record { answer = Done Plain; state = named_too })
Step-named_then = (Some (Team red), (red_token-not_office, refl), (None, refl, refl))

Step-named_already : Step simple_parts named_too names.token names.command (record { answer = Already Plain; state = named_too })
Step-named_already = (Some (Team red), (red_token-not_office, refl), (None, refl, refl))

-- either the command had taken its step as the program was stopped
LeavesSessions-cut_was_done : LeavesSessions simple_parts fixture (asked_again (Already Plain)) named_too
LeavesSessions-cut_was_done =
    (named_too, tt, (published, Step-published_first, (named_too, inr (Done Plain, Step-named_then), refl)), (named_too, tt, (named_too, Step-named_already, refl), refl))

-- or it had done nothing
LeavesSessions-cut_did_nothing : LeavesSessions simple_parts fixture (asked_again (Done Plain)) named_too
LeavesSessions-cut_did_nothing =
    (published, tt, (published, Step-published_first, (published, inl refl, refl)), (named_too, tt, (named_too, Step-named_then, refl), refl))

ComeAgain-cut_command : (answer : Answer) → ComeAgain (sessions_of (asked_again answer))
ComeAgain-cut_command answer = ((([], refl), tt), (tt, tt))

-- and both lead to the state of a run over the two commands, each once
Run-each_command_once : (answer : Answer) → Run simple_parts fixture (all_answered (sessions_of (asked_again answer))) (Done (Content 1) ∷ Done Plain ∷ []) named_too
Run-each_command_once answer = (published, Step-published_first, (named_too, Step-named_then, refl))

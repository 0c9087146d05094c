-- what standard error shows of a command that failed (the words and numbers are this project's own choice)
use Rattle.std.specs.Prelude.{ℕ, List, ◌++◌, codes, decimal}
use Rattle.answer_texts.specs.AnswerText.{answer_text}
use Rattle.broker_http.specs.declared.served.StreamFault.{StreamFault}
use Rattle.broker_http.specs.declared.served.StreamFault.TheVariants as serving
use Rattle.broker_database.specs.declared.opening.OpenFault.{OpenFault}
use Rattle.broker_database.specs.declared.opening.OpenFault.TheVariants as opening
use Rattle.pact_file.specs.Words.{fault_text as pact_text}
use Rattle.reply_check.specs.Words.{check_text, replies_text}
use Rattle.program_io.specs.declared.fault.RunFault.{RunFault}
use Rattle.program_io.specs.declared.fault.RunFault.TheVariants as fault

abbrev pub opening_text : OpenFault → List ℕ
opening_text opening.NotEmpty = codes "open 1"
opening_text opening.NotABroker = codes "open 2"
opening_text (opening.Format format) = codes "open 3." ++ decimal format
opening_text opening.Memory = codes "open 4"
opening_text opening.Store = codes "open 5"

abbrev pub serving_text : StreamFault → List ℕ
serving_text (serving.Read failed) = codes "serve 1"
serving_text (serving.Turn over) = codes "serve 1"
serving_text serving.Count = codes "serve 1"
serving_text (serving.Write fault) = codes "serve 2"
serving_text serving.Memory = codes "serve 3"

abbrev pub fault_text : RunFault → List ℕ
fault_text fault.Token = codes "token"
fault_text fault.Name = codes "name"
fault_text fault.File = codes "file"
fault_text (fault.Open f) = opening_text f
fault_text fault.Listen = codes "listen"
fault_text (fault.Serve f) = serving_text f
fault_text (fault.Pact f) = pact_text f
fault_text (fault.Replies f) = replies_text f
fault_text (fault.Check f) = check_text f
fault_text (fault.Answer answer) = answer_text answer
fault_text fault.Memory = codes "memory"

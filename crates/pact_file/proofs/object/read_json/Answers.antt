use Rattle.pact_file.proofs.Objects.{json_of-not_json, json_of-of_text}
use Rattle.pact_file.proofs.object.read_json.Goals as goal

pub returns-in-Ok-clause-value : goal.returns-in-Ok-clause-value
returns-in-Ok-clause-value c = json_of-of_text c.args.bytes.now c.in-Ok.text.now c.read_text.result c.in-Ok.ensures.cases.0 c.in-Ok.ensures.cases.1 c.read_text.ensures.value

pub returns-in-Err-clause-value : goal.returns-in-Err-clause-value
returns-in-Err-clause-value c = λ memory. json_of-not_json c.args.bytes.now (λ utf8. absurd (c.in-Err.ensures.cases.0 utf8))

use Rattle.broker_database.specs.Calls.{Applied}
use Rattle.broker_http.proofs.OneReading as lemma
use Rattle.broker_http.proofs.laws.one_reading.Goals as goal

pub returns-clause-reading : goal.returns-clause-reading
returns-clause-reading g c = lemma.IsOneReading-of_responses (Applied g.B.Service.shown) (Applied g.C.Service.shown)

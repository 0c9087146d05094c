-- A state that can be read back leaves only rows that obey the rules.
use Rattle.sqlite.specs.Effect.{Database}
use Rattle.broker_core.specs.State.{State as Broker}
use Rattle.broker_tables.specs.{Holds.{IsBroker, Holds}, Readable.{IsReadable}}
use Rattle.table_audit.specs.{Audit.{HoldsAState, IsAudited, EachOf, Obeys, rows_under}, declared.auditing.TableRule.{TableRule}}
use Rattle.table_audit.proofs.OwnRows.{meta-has_row, Office-of_state, Team-of_state, Pacticipant-of_state, Version-of_state, Content-of_state, Result-of_state}
use Rattle.table_audit.proofs.LinkedRows.{Provider-of_state, Named-of_state, Newest-of_state, Deployed-of_state}
use Rattle.table_audit.specs.declared.auditing.TableRule.TheVariants as rule

-- each rule is obeyed
each-of_state : (db : Database) (s : Broker) → Holds db s → IsReadable s → (which : TableRule) → EachOf (rows_under which db) (Obeys which db)
each-of_state db s held readable rule.Office = Office-of_state db s held readable
each-of_state db s held readable rule.Team = Team-of_state db s held readable
each-of_state db s held readable rule.Pacticipant = Pacticipant-of_state db s held readable
each-of_state db s held readable rule.Version = Version-of_state db s held readable
each-of_state db s held readable rule.Content = Content-of_state db s held readable
each-of_state db s held readable rule.Result = Result-of_state db s held readable
each-of_state db s held readable rule.Provider = Provider-of_state db s held
each-of_state db s held readable rule.Named = Named-of_state db s held readable
each-of_state db s held readable rule.Newest = Newest-of_state db s held
each-of_state db s held readable rule.Deployed = Deployed-of_state db s held readable

-- so the tables of a state that can be read back are audited
pub IsAudited-of_HoldsAState : (db : Database) → IsBroker db → HoldsAState db → IsAudited db
IsAudited-of_HoldsAState db broker (s, held, readable) = record { office = meta-has_row db s held readable; each = each-of_state db s held readable }

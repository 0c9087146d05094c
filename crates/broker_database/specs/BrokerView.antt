-- what a caller sees of a broker: its connection, and whether it is stopped
use Rattle.std.specs.Prelude.{Bool, refl}
use Rattle.std.specs.Coded.{Coded, code_by, coded×, coded_bool}
use Rattle.sqlite.specs.Held.{Held, held_code}

pub record BrokerView (S : Type 0) : Type 0 where
  pub connection : Held S
  pub is_stopped : Bool

abbrev pub broker_view_code : {S : Type 0} → Coded S → Coded (BrokerView S)
broker_view_code {S} store =
    code_by (Held S
    × Bool) (coded× (held_code store) coded_bool)
    (λ b. (b.connection, b.is_stopped)) (λ p. record { connection = p.0; is_stopped = p.1 }) (λ _. refl)

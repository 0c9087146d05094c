-- for private clauses: what a function lends
use Rattle.std.specs.Borrow.{Fml, Lends, MutBor}
use Rattle.program_io.specs.declared.listening.Connections.{Connections}
use Rattle.program_io.specs.declared.listening.Entrance.{Entrance}
use Rattle.program_io.specs.contracts.listening.Connections.{the_row}
use Rattle.program_io.specs.contracts.listening.Entrance.{the_row as entrance_row}

-- the entrance is lent: what its borrower leaves becomes the entrance of the connections
abbrev pub LendsEntrance : MutBor Connections → MutBor Entrance → Fml
LendsEntrance connections entrance =
    Lends the_row entrance_row connections entrance (λ last. record connections.now { entrance = last })

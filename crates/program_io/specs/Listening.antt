-- where a broker listens (this project's own choice: an address of loopback, since it has no TLS)
use Rattle.std.specs.Prelude.{◌≡◌, ◌⊎◌, ℕ, List}
use Rattle.std.specs.Net.Addr.{MatchIp, IsLoopbackV4, IsLoopbackV6}
use Rattle.std.specs.Net.Socket.{socket_ip, socket_port}
use Rattle.std.specs.Net.Grammar.{IsSocketText}
use Rattle.std.specs.declared.net.socket_addr.SocketAddr.{SocketAddr}

-- an address of 127.0.0.0/8 or ::1
abbrev pub IsOfLoopback : SocketAddr → Type 0
IsOfLoopback address = MatchIp (socket_ip address) IsLoopbackV4 IsLoopbackV6

-- such an address with its port, in the text's words
abbrev pub IsLoopback : List ℕ → SocketAddr → Type 0
IsLoopback text address = IsSocketText text address × IsOfLoopback address

-- the text says such an address
abbrev pub ListensOn : List ℕ → Type 0
ListensOn text = (address : SocketAddr) × IsLoopback text address

-- the port is the one that was asked for; port 0 asks for any
abbrev pub HasPortOf : SocketAddr → SocketAddr → Type 0
HasPortOf asked bound = (socket_port asked ≡ 0) ⊎ (socket_port bound ≡ socket_port asked)

-- For private clauses: what the system listens on is as the text says.
abbrev pub IsBoundAs : List ℕ → SocketAddr → Type 0
IsBoundAs text bound = (asked : SocketAddr) × IsLoopback text asked × IsOfLoopback bound × HasPortOf asked bound

use Rattle.std.{specs.List.{list_any}, proofs.Common.{◌≡◌, take, map, codes}}
use Rattle.httparse.specs.Spans.{header_bytes}
use Rattle.http_messages.specs.{Fields.{values_named}, Options.{has_close}}
use Rattle.http_messages.proofs.options.closes.Given as goal

-- whether a field so far has the option
abbrev pub invariant-loop-field : goal.invariant-loop-field
invariant-loop-field l = l.found ≡ list_any has_close (values_named (codes "connection") (map (header_bytes l.text) (take l.field-index l.fields)))

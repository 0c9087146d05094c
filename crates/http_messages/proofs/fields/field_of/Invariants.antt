use Rattle.std.proofs.Common.{take, map}
use Rattle.httparse.specs.Spans.{header_bytes}
use Rattle.http_messages.specs.Fields.{values_named, IsField}
use Rattle.http_messages.proofs.fields.field_of.Given as goal

-- the fields so far
abbrev pub invariant-loop-span : goal.invariant-loop-span
invariant-loop-span l = IsField (values_named l.name (map (header_bytes l.text) (take l.span-index l.spans))) l.found

use Rattle.std.{specs.{List.{list_all}, Char.{is_ascii_digit}, Str.Parse.{digits_value}}, proofs.Common.{◌≡◌, ◌<◌, ◌^◌, true, take}}
use Rattle.http_messages.proofs.fields.short_number.Given as goal

-- the digits so far
abbrev pub invariant-loop-b : goal.invariant-loop-b
invariant-loop-b l = record {
  digits : list_all is_ascii_digit (take l.b-index l.text) ≡ true;
  value : l.n ≡ digits_value 10 (take l.b-index l.text);
  small : l.n < 10 ^ l.b-index;
}

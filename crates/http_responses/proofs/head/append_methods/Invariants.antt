use Rattle.std.proofs.Common.{◌≡◌, ◌+◌, ◌*◌, ◌≤◌, ◌++◌, vec_len, vec_capacity}
use Rattle.http_routes.specs.Methods.{listed}
use Rattle.http_responses.proofs.HeadLemmas.{is_empty, kept}
use Rattle.http_responses.proofs.head.append_methods.Given as goal

-- the methods so far are appended
abbrev pub invariant-loop-method : goal.invariant-loop-method
invariant-loop-method l = record {
  items : l.text.items ≡ l.fn.text.items ++ listed (kept l.resource l.method-index);
  first : l.is_first ≡ is_empty (kept l.resource l.method-index);
  len : vec_len l.text ≤ vec_len l.fn.text + 8 * l.method-index;
  capacity : vec_capacity l.fn.text ≤ vec_capacity l.text;
}

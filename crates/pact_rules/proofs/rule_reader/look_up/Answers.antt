use Rattle.std.{specs.Option.{option_copied}, proofs.Common.{◌≡◌, ◌∙◌, Option, None, Some, Bor, option_map, refl, ap}}
use Rattle.serde_json.{specs.{View.{view}, declared.value.Value.{Value}}, proofs.Views.{view-lookup}}
use Rattle.pact_rules.proofs.rule_reader.look_up.Goals as goal

seen : (o : Option (Bor Value)) → option_map (λ t. view t.now) o ≡ option_map view (option_copied o)
seen None = refl
seen (Some x) = refl

pub returns : goal.returns
returns c = seen c.get.result ∙ ap (option_map view) c.get.ensures.value ∙ view-lookup c.args.name.now c.args.members.now.entries

use Rattle.std.proofs.Common.{length}
use Rattle.registry_tables.proofs.format_1.+has_tables.Given as goal

abbrev pub decreases-has_tables : goal.decreases-has_tables
decreases-has_tables l = length l.forms.now

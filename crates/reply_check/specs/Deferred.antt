-- For private clauses: what a walk leaves to be asked once it is at its end.
use Rattle.std.specs.Prelude.{◌≡◌, ℕ, Bool, ◌&&◌, Some, map, slice_get}
use Rattle.std.specs.List.{list_all, AllByRecursion}
use Rattle.pact_rules.specs.{Rules.{Rules}, RuleViews.{entry_view}, Deferred.{deferred_hold}}
use Rattle.reply_check.specs.declared.deferred.DeferredTexts.{DeferredTexts}
use Rattle.reply_check.specs.declared.deferred.Deferred.{Deferred}

-- the patterns hold of all their texts
abbrev pub texts_hold : DeferredTexts → Bool
texts_hold g = deferred_hold g.entry.now g.texts.items

abbrev pub deferred_holds : Deferred → Bool
deferred_holds l = list_all texts_hold l.groups.items

-- the entry is the table's at the index
abbrev pub IsOf : Rules → DeferredTexts → Type 0
IsOf rules g = slice_get (map (λ r. r.entry) rules.body) g.index ≡ Some (entry_view g.entry.now)

abbrev pub AreOf : Rules → Deferred → Type 0
AreOf rules l = AllByRecursion (IsOf rules) l.groups.items

-- at the place is the group of the index
abbrev pub AreTextsAt : ℕ → Deferred → ℕ → Type 0
AreTextsAt index l place = (g : DeferredTexts) × (slice_get l.groups.items place ≡ Some g) × (g.index ≡ index)

-- the answer, and what is deferred after it, say as much as what was deferred before it and what was asked
abbrev pub Defers : Deferred → Deferred → Bool → Bool → Type 0
Defers old new answer asked = (answer && deferred_holds new) ≡ (deferred_holds old && asked)

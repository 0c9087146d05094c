mod SplitLemmas
mod TableLemmas
mod WalkLemmas

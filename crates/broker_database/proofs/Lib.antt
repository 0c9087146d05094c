pub mod Transaction
pub mod StoreFailures
pub mod OpenFailures
pub mod Sound
pub mod SchemaLemmas
pub mod SessionLemmas
pub mod Blank
pub mod Judgements
mod CheckLemmas
mod CatalogLemmas
mod DropLemmas
pub mod NamedRows
pub mod MigrationLemmas
pub mod MakeLemmas
pub mod ListedLemmas
pub mod StoredLemmas
pub mod Format1Opening
pub mod Format1Room
pub mod LifeLemmas
mod LifeExamples
mod MigrationExamples

-- the values under the keys of an answer's body, and of its items, as JSON
use Rattle.serde_json.specs.Data.{Data, null, boolean, string}
use Rattle.answer_texts.specs.declared.items.Scalar.{Scalar}
use Rattle.answer_texts.specs.declared.items.Scalar.TheVariants as scalar
use Rattle.answer_texts.specs.declared.parts.Part.{Part}
use Rattle.answer_texts.specs.declared.parts.Part.TheVariants as part
use Rattle.answer_texts.specs.Data.{whole, items, pair_fault, deployed_item, version_item, matrix_row}

abbrev pub scalar_data : Scalar → Data
scalar_data scalar.Null = null
scalar_data (scalar.Text text) = string text.now
scalar_data (scalar.Number n) = whole n
scalar_data (scalar.Truth b) = boolean b

abbrev pub part_data : Part → Data
part_data (part.Text text) = string text.now
part_data (part.Number n) = whole n
part_data (part.Truth b) = boolean b
part_data (part.Places places) = items whole places.now
part_data (part.Faults faults) = items pair_fault faults.now
part_data (part.Deployed deployed) = items deployed_item deployed.now
part_data (part.Released released) = items version_item released.now
part_data (part.Rows rows) = items matrix_row rows.now

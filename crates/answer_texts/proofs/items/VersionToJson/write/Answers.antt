use Rattle.answer_texts.proofs.items.VersionToJson.write.Goals as goal

pub returns : goal.returns
returns c = rw (c.as_str.ensures, c.as_str-2.ensures) at c.write_object.ensures

use Rattle.answer_texts.proofs.items.DeployedItemToJson.write.Goals as goal

pub returns : goal.returns
returns c = rw (c.as_str.ensures, c.as_str-2.ensures, c.as_str-3.ensures) at c.write_object.ensures

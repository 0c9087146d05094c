-- Worked values, computed from the definitions.
use Rattle.std.proofs.Common.{codes, refl}
use Rattle.reply_check.specs.HeaderValues.{HasValue}

-- blanks after a comma don't count
HasValue-blank_after_comma : HasValue (codes "x") (codes "a, b") (codes "a,b")
HasValue-blank_after_comma = refl

-- those in front of one do
HasValue-blank_before_comma : ¬ HasValue (codes "x") (codes "a,b") (codes "a , b")
HasValue-blank_before_comma h = absurd cc

-- the parameters of a media type don't, nor its case, if none is expected
HasValue-media_type : HasValue (codes "content-type") (codes "Application/JSON") (codes "application/json;charset=x")
HasValue-media_type = refl

-- the case of another header does
HasValue-case_counts : ¬ HasValue (codes "x") (codes "A") (codes "a")
HasValue-case_counts h = absurd cc

use Rattle.std.proofs.Common.{◌+◌, ◌*◌, max}
use Rattle.canonical.proofs.part.+part.Given as goal

abbrev pub decreases-Part::claim : goal.decreases-Part::claim
decreases-Part::claim g l = 3 * l.self.now.node

abbrev pub decreases-Part::pattern : goal.decreases-Part::pattern
decreases-Part::pattern g l = 3 * l.self.now.node

abbrev pub decreases-Part::sum : goal.decreases-Part::sum
decreases-Part::sum g l = 3 * l.self.now.node

abbrev pub decreases-Part::two : goal.decreases-Part::two
decreases-Part::two g l = 3 * max l.a l.b + 2

abbrev pub decreases-PartDisplay::fmt : goal.decreases-PartDisplay::fmt
decreases-PartDisplay::fmt g l = 3 * l.self.now.node + 1

use Rattle.std.proofs.Common.{refl, rules}
use Rattle.transcript.proofs.Once.{printed}
use Rattle.transcript.proofs.whole.transcribe.Goals as goal

pub returns : goal.returns
returns c = printed _ c.put_transcript.ensures.1 c.put_transcript.ensures.2 refl (search rules)

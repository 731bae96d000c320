use Rattle.std.proofs.Common.{◌∙◌, ap, map, string_bytes}
use Rattle.embed.proofs.Courses.{followed}
use Rattle.embed.proofs.input.follow.Goals as goal

pub returns : goal.returns
returns c = λ job is.
    followed job c.args.input.now.trusted _ _ _ _ c.follow_alone.result is.metadata is.moment (ap (map string_bytes) c.as_slice.ensures.value ∙ is.wanted) is.limit c.follow_alone.ensures.course

-- Each of the four is that of the policy's own question.
use mathlib.Core.Path.{◌∙◌}
use Rattle.reach.proofs.Meeting.{climbed, direct_by}
use Rattle.reach.proofs.Policy.placing.Goals as goal

pub returns : goal.returns
returns c =
    record {
      posts = c.posts.ensures;
      first = climbed _ c.above.ensures;
      second = climbed _ c.above-2.ensures;
      is_direct = c.direct.ensures ∙ direct_by _ _ _;
    }

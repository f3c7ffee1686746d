-- For a user the table of appointments tells; who is none holds nothing.
use mathlib.Core.Path.{◌≡◌}
use Rattle.std.proofs.Common.{rules}
use Rattle.reach.proofs.Testing.{decides_at, refuted}
use Rattle.reach.proofs.Deciding.{decides_user}
use Rattle.reach.proofs.Meeting.{posts_of_user, posts_of_none}
use Rattle.reach.proofs.Policy.posts.Goals as goal

pub returns-then-not-is_user : goal.returns-then-not-is_user
returns-then-not-is_user c =
    let none : c.default.result ≡ record { owner = 0; manager = 0 } = search rules in
    rw none (posts_of_none _ (refuted (decides_at c.is_user.ensures (decides_user _ _)) c.if-not-is_user.true))

pub returns : goal.returns
returns c = posts_of_user _ ((decides_at c.is_user.ensures (decides_user _ _)).sound c.if-not-is_user.false) c.posts_of.ensures

-- Who may PUT: what he is appointed over meets what the object is under, and what the group is under. Whoever may is a user, and
-- the object is in use.
use mathlib.Core.Path.{◌≡◌, refl, sym, subst}
use mathlib.Core.Bool.{Bool, true, false, not, ◌&&◌, ◌||◌}
use mathlib.Core.Logic.{◌⊎◌, inl, inr, ⊎_elim}
use Prim.Native.Nat.{ℕ, ◌^◌, ◌<◌}
use lib.Bits.{bit_and}
use lib.Dec.{eqb}
use Rattle.std.specs.Prelude.{Result, Err}
use Rattle.reach.specs.declared.Policy.{Policy}
use Rattle.reach.specs.declared.Posts.{Posts}
use Rattle.reach.specs.Words.{Meet}
use Rattle.reach.specs.Tests.{Decides, ◌⇒◌∥◌}
use Rattle.reach.specs.Tables.{view}
use Rattle.reach.specs.Reach.{InUse, User, direct}
use Rattle.reach.specs.Privileges.{owner, manager, Holds}
use Rattle.reach.specs.Asking.{PostsOf}
use Rattle.reach.proofs.Testing.{decides_as, decides_same, decides_or}
use Rattle.reach.proofs.WordSets.{set_bits, set_mask, decides_nonempty}
use Rattle.reach.proofs.Reaching.{under_lower}
use Rattle.reach.proofs.Deciding.{holds_decides}
use Rattle.reach.proofs.Meeting.{meet_holds, holds_meet}
use Rattle.rules.specs.declared.Request.TheVariants.{Put}
use Rattle.rules.specs.declared.Refusal.{Refusal}
use Rattle.rules.specs.declared.Refusal.TheVariants.{AlreadySo, NoAuthority}
use Rattle.rules.specs.Authority.{governs, may}
use Rattle.rules.specs.Refusals.{already_so, no_authority}
use Rattle.gains.specs.Giving.{given_by}
use Rattle.gains.specs.Lacking.{Above}

-- Two words that are sets, and a third.
pub meets_either : (a b s : ℕ) → s < 2 ^ 64 → Decides (not (eqb (bit_and a s) 0) || not (eqb (bit_and b s) 0)) (Meet a s ⊎ Meet b s)
meets_either a b s w =
    decides_or _ _ (decides_nonempty (set_mask a (set_bits s w))) (decides_nonempty (set_mask b (set_bits s w)))

module _ (p : Policy) {u : ℕ} {posts : Posts} (held : PostsOf (view p) u posts) where
  -- He owns or manages x.
  abbrev Governs : ℕ → Type 0
  Governs x = Holds (view p) owner u x ⊎ Holds (view p) manager u x

  -- What is asked of a word that is all that x is under.
  module _ {x above word : ℕ} {t : Bool} (a : Above p x above) (e : word ≡ above)
      (d : Decides t (Meet posts.owner word ⊎ Meet posts.manager word)) where
    governing : Decides t (Governs x)
    governing =
        decides_as
        (subst (λ (n : ℕ). Decides t (Meet posts.owner n ⊎ Meet posts.manager n)) e d)
        (λ w. ⊎_elim (λ m. inl (meet_holds p held.owner a m)) (λ m. inr (meet_holds p held.manager a m)) w)
        (λ w. ⊎_elim (λ h. inl (holds_meet p held.owner a h)) (λ h. inr (holds_meet p held.manager a h)) w)

    pub governs_asked : t ≡ governs p u x
    governs_asked = decides_same _ _ governing (decides_or _ _ (holds_decides p owner u x) (holds_decides p manager u x))

    pub governs_user : t ≡ true → User (view p) u
    governs_user f = ⊎_elim (λ h. h.user) (λ h. h.user) (governing.sound f)

    pub governs_used : t ≡ true → InUse (view p) x
    governs_used f = ⊎_elim (λ h. under_lower h.by.at.covers) (λ h. under_lower h.by.at.covers) (governing.sound f)

-- The first of two tests that both pass.
pub both_first : (s t : Bool) → (s && t) ≡ true → s ≡ true
both_first true t e = refl
both_first false t e = e

-- Checks 8 and 9 of a PUT, and what comes after them.
module _ (p : Policy) (u x g : ℕ) where
  abbrev Answer : Result (Unit {0}) Refusal → Type 0
  Answer r = r ≡ (already_so p (Put x g) ⇒ Err AlreadySo ∥ no_authority p u (Put x g) ⇒ Err NoAuthority ∥ given_by p u (Put x g))

  pub put_already : direct p x g ≡ true → Answer (Err AlreadySo)
  unfolding already_so
  put_already e = rw e

  module _ {s t : Bool} (new : direct p x g ≡ false) (e : s ≡ governs p u x) (f : t ≡ governs p u g) where
    pub put_unentitled : (s && t) ≡ false → Answer (Err NoAuthority)
    unfolding already_so no_authority may
    put_unentitled k = rw (new, sym e, sym f, k)

    pub put_entitled : {r : Result (Unit {0}) Refusal} → (s && t) ≡ true → r ≡ given_by p u (Put x g) → Answer r
    unfolding already_so no_authority may
    put_entitled k h = rw (new, sym e, sym f, k, h)

-- Demand 3 gives its second wording, for every start and list: what cannot be otherwise is so, as the tests decide who owns, manages,
-- administers and is permitted what on every policy. From the fields of the demand alone.
use mathlib.Core.Path.{◌≡◌, refl, ap}
use mathlib.Core.Bool.{Bool, true, false}
use mathlib.Core.Logic.{◌⊎◌, inl, inr}
use mathlib.Core.List.{List}
use Prim.Native.Nat.{ℕ, suc, ◌<◌}
use native.Mathlib.Omega.{arith}
use Rattle.reach.specs.declared.Policy.{Policy}
use Rattle.reach.specs.declared.Appointment.{Appointment}
use Rattle.reach.specs.Tests.{Decides}
use Rattle.reach.specs.Tables.{View, counted, initial}
use Rattle.reach.specs.Privileges.{owner, manager, Owns}
use Rattle.reach.proofs.Testing.{refuted, fails, decides_true, decides_eqb}
use Rattle.reach.proofs.Deciding.{holds_decides, administers_decides, permitted_decides}
use Rattle.rules.specs.declared.Request.{Request}
use Rattle.rules.specs.Records.{sender}
use Rattle.rules.specs.Allowing.{Privilege, owning, managing, administering, permission, Has, There, Comes, Standing}
use Rattle.text.specs.Text.{Bytes}
use Rattle.list.specs.Runs.{policy_at, before, end, record_at, Done}
use Rattle.list.specs.Demand.{Demand3, FoundingDemand3}
use Rattle.list.specs.Accountable.{SenderHad, OwnerHanded, Accountable, FoundingAccount}
use Rattle.list.proofs.Demanded.{third}

-- What a test decides is so, if it cannot be otherwise.
so : {P : Type 0} (t : Bool) → Decides t P → ((P → ⊥) → ⊥) → P
so true d n = d.sound refl
so false d n = absurd (n (refuted d refl))

-- The same of the first of two facts, or else the second.
either_so : {P Q : Type 0} (s t : Bool) → Decides s P → Decides t Q → ((P → ⊥) → (Q → ⊥) → ⊥) → P ⊎ Q
either_so true t d e n = inl (d.sound refl)
either_so false true d e n = inr (e.sound refl)
either_so false false d e n = absurd (n (refuted d refl) (refuted e refl))

module _ (start : Policy) (list : List Bytes) (demand : Demand3 start list) where
  abbrev Then : ℕ → View
  Then = before start list

  sender_had : (i u : ℕ) (q : Request) → Done start list i u q → SenderHad start list i u
  sender_had i u q d =
      record {
        owned = λ x t h. so _ (holds_decides (policy_at start list i) owner u x) (had (owning x) t h);
        managed = λ x t h. so _ (holds_decides (policy_at start list i) manager u x) (had (managing x) t h);
        administered = λ a b s t h. so _ (administers_decides (policy_at start list i) u a b) (had (administering a b) (s, t) h);
        permitted = λ k x t h. so _ (permitted_decides (policy_at start list i) u k x) (had (permission k x) t h);
      }
    where
      had : (w : Privilege) → There (Then i) w → Has (Then (suc i)) u w → (Has (Then i) u w → ⊥) → ⊥
      had w t h n = demand.no_own_gain i u q d (record { what = w; there = t; has = h; lacked = n })

  owner_handed : (i : ℕ) → i < end start list → OwnerHanded start list i
  owner_handed i l =
      record {
        owned = λ w x t h.
            either_so _ _ (holds_decides (policy_at start list i) owner w x) (holds_decides (policy_at start list i) owner from x)
            (λ n m. handed w x (record { there = t; gain = inl (h, n) }) m);
        managed = λ w x t h.
            either_so _ _ (holds_decides (policy_at start list i) manager w x) (holds_decides (policy_at start list i) owner from x)
            (λ n m. handed w x (record { there = t; gain = inr (h, n) }) m);
      }
    where
      from : ℕ
      from = sender (record_at start list i)

      handed : (w x : ℕ) → Comes (Then i) (Then (suc i)) w x → (Owns (Then i) from x → ⊥) → ⊥
      handed w x c m = demand.no_hand_over i l (record { who = w; what = x; comes = c; not_own = m })

  pub accountable : Accountable start list
  accountable =
      record {
        owners = λ x i.
            let o = demand.owners x i in
            record {
              who = o.place;
              number = o.low;
              user = o.at.user;
              place = o.at.by.place;
              in_table = o.at.by.low;
              is_owner = o.at.by.at.is_kind;
              is_holder = o.at.by.at.is_holder;
              covers = o.at.by.at.covers;
            };
        lines = λ u k x i h.
            demand.lines u k x
            (record {
              user = h.user;
              target = h.target;
              number = h.number;
              by =
                  record {
                    place = i;
                    low = h.in_table;
                    at =
                        record {
                          used = h.used;
                          operation = h.operation;
                          covers_user = h.covers_user;
                          covers_target = h.covers_target;
                        };
                  };
            });
        no_own_gain = sender_had;
        no_hand_over = owner_handed;
      }

pub founding_account : (list : List Bytes) → FoundingDemand3 list → FoundingAccount list
founding_account list demand =
    record {
      accountable = accountable initial list demand.demand;
      no_other = λ p l. nothing p l;
      founder's = λ s.
          let e = (demand.one_appointment 0 s).1 in (
            ap (λ (w : Appointment). w.kind) e,
            ap (λ (w : Appointment). w.holder) e,
            ap (λ (w : Appointment). w.a) e,
            ap (λ (w : Appointment). w.b) e,
          );
      inside = λ x g i j e. demand.one_membership x g (record { object = i; group = j; is_stored = e });
      no_rule = λ p. fails _ (decides_true _) (demand.no_rule p);
    }
  where
    nothing : (p : ℕ) → 0 < p → counted ((before initial list 0).appointment p).kind ≡ 0
    nothing p l = so _ (decides_eqb _ 0) (λ n. let s : Standing ((before initial list 0).appointment p) = omega (arith, n) in
        let e = (demand.one_appointment p s).0 in omega (arith, e, l))

-- So every list from the founding is accountable.
pub third_accounts : (list : List Bytes) → FoundingAccount list
third_accounts list = founding_account list (third list)

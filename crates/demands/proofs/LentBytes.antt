-- What a function is lent as `&[u8]` are bytes: the parameter's type says it, and so a theorem about the function that
-- runs need not ask it. A run takes in a step of ghost state before it, and that step opens the borrow, reads that each
-- entry is a byte, and closes it.
use Rattle.prelude.proofs.{ℕ, suc, ◌≡◌, List, [], ◌∷◌, lit<, w8, named, Val}
use seplogic.Ra.Ura.{Ura}
use base.Logic.{SProp, ent, sep, emp, guard_e, via, mono_r, id⊢}
use base.Fml.{Lft, Share, Fml, fsep, flft}
use types.Logic.{Logic, sem}
use types.Kit.{◌$◌, !, ‵, raw, ◌⊛◌, qed, use2, given, learn, split, join, move, later, await, updating}
use types.Kit.{now, fsplit, fjoin, feq_l, feq_i, by}
use contract.Monad.{fact, fact_i, fact_mono}
use contract.Lifetimes.{Outlives, toks}
use denote.Ref.{Bor}
use denote.RattleType.{owns}
use denote.Builtin.{u8}
use denote.Slice.{ShrSlice, shr_slice_vals}
use denote.Signature.{Slot, shr_slice, types_at}
use denote.Ask.Run.{routine_mono}
use denote.Triple.End.{Kepts}
use denote.Triple.Clauses.{Ended, lasts}
use denote.Triple.Table.{run_Enters}
use denote.Triple.Weaken.{weaken_under}
use borrow.Table.Owned as owned
use borrow.Table.Referent.{f_int}
use borrow.Rule.Slice.Know.{AllWt, fit_at, shs_known}
use Rattle.table.specs.{◌leaving◌}
use Rattle.file_write.proofs as writer
use Rattle.file_write.specs.contracts as writer'
use Rattle.file_write.specs.{write_outcome}
use Rattle.file.specs.{Bytes}
use Rattle.demands.specs.Runs.{Runs, Function, function}
use Rattle.demands.specs.{Claim}
use Rattle.demands.proofs.Contracts as contracts
use Rattle.demands.proofs.Running.{follows}

module _ {M : Type 1} {𝓤 : Ura M} (𝓛 : Logic 𝓤) (κ : Lft) (q : Share) (tokens : SProp 𝓤)
    (x : Bor (List ℕ)) (vs : List Val) (others : Fml) where
  -- what there is at the entry of a function whose first parameter is a slice
  open 𝓛 use {H, A}

  abbrev Entry : SProp 𝓤
  Entry = sep 𝓤 (sep 𝓤 (A.lft κ q) tokens) (sem 𝓛 (fsep ((ShrSlice (named 0) κ u8).own_val x vs) others))

  entry-shows : ent 𝓤 (sep 𝓤 Entry (emp 𝓤)) (H.⇛ (sep 𝓤 Entry (fact 𝓤 (Bytes x.now))))
  entry-shows =
      qed 𝓛
      (((‵ (flft κ q) ⊛ raw tokens) ⊛ ‵ (fsep ((ShrSlice (named 0) κ u8).own_val x vs) others)) ∷ raw (emp 𝓤) ∷ [])
      (updating ! $ split ! $ split ! $ move ! (2 ∷ []) $ fsplit ! $ fsplit ! $ fsplit ! $ feq_l ! (λ e.
      fjoin ! $ move ! (0 ∷ 2 ∷ []) $
      use2 𝓛 (later (given (AllWt (f_int w8) x.now) (‵ ((owned.ShrSlice (named 0) κ u8).own_val x) ⊛ ‵ (flft κ q))))
      (shs_known 𝓛 (f_int w8) κ q x.ref_ptr.0 x.ref_ptr.1 x.now) $ await ! tt $ learn ! (λ a.
      split ! $ fsplit ! $ feq_i ! (List Val) vs (shr_slice_vals x) e $ fjoin ! $ fjoin ! $ move ! (0 ∷ 2 ∷ []) $
      fjoin ! $ move ! (1 ∷ 2 ∷ 0 ∷ []) $ join ! $ join ! $ now ! $
      by ! (mono_r 𝓤 Entry (fact_i 𝓤 (Bytes x.now) (emp 𝓤)
      (λ k _. (fit_at (f_int w8) 0 (record { fits = lit< tt }) x.now a k).fits))))))

-- a function whose first parameter is a slice
abbrev lent : {n : ℕ} (os : List (Outlives (suc n))) (ps : List (Slot (suc n))) → Slot (suc n)
    → Kepts (shr_slice 0 tt (λ _. u8) ∷ ps) → Ended
lent {n} os ps r ks =
    record {
      signature =
          record { lifetimes = suc n; outlives = os; params = shr_slice 0 tt (λ _. u8) ∷ ps; result = r };
      kept = ks;
    }

-- so that the slice holds bytes need not be asked of it
pub first-bytes : {n : ℕ} {os : List (Outlives (suc n))} {ps : List (Slot (suc n))} {res : Slot (suc n)}
    {ks : Kepts (shr_slice 0 tt (λ _. u8) ∷ ps)} {f : Function} {P : Claim (lent os ps res ks)}
    → Runs (lent os ps res ks) f (λ κs x r e. Bytes x.0.now → P κs x r e) → Runs (lent os ps res ks) f P
first-bytes {n} {os} {ps} {res} {ks} {f} {P} m =
    record {
      meets = λ {𝓤 = 𝓤} 𝓛 𝓜 𝓡 w y.
          let T = lent os ps res ks in
          let ρ = 𝓡.env f.name in
          via 𝓤 _ (entry-shows 𝓛 y.0.0.0 y.0.1.0 (toks 𝓛 n y.0.0.1 y.0.1.1)
          y.0.3.0 y.0.4.0 (owns (types_at ps y.0.0) y.0.3.1 y.0.4.1))
          (via 𝓤 (𝓛.H.⇛ (𝓡.run ρ _ _))
          (𝓛.laws.⇛_mono _ _
          (weaken_under 𝓛 T
          (λ κs x. let B = Bytes x.0.now in
          record { ghost = Unit {0}; requires = λ _. emp 𝓤; ensures = λ _ r e. fact 𝓤 (B → P κs x r e) })
          (λ κs x. let B = Bytes x.0.now in
          record { ghost = Unit {0}; requires = λ _. fact 𝓤 B; ensures = λ _ r e. fact 𝓤 (P κs x r e) })
          (λ κs x g. g) (λ κs x g. Bytes x.0.now) (λ κs x g. id⊢ 𝓤 (fact 𝓤 (Bytes x.0.now)))
          (λ κs x g _. guard_e 𝓤 (Bytes x.0.now) (emp 𝓤) (λ _. id⊢ 𝓤 (emp 𝓤)))
          (λ κs x g b r ws. mono_r 𝓤 (sem 𝓛 (lasts T κs x ws))
          (fact_mono 𝓤 (Bytes x.0.now → P κs x r _) (P κs x r _) (λ p. p b)))
          (𝓡.run ρ) (routine_mono 𝓤 𝓛.H 𝓜 𝓡 ρ) (m.meets 𝓛 𝓜 𝓡 w) y))
          (run_Enters 𝓤 𝓛.H 𝓜 𝓡 ρ _ _));
    }

-- what the contract of the writer says of a call, and that its table holds bytes
pub writer-says : Runs writer'.write.ended (function writer.write.Symbol.name writer.write.Symbol.code)
    (λ κs (t, (f, _)) r (_, (f', _)). Bytes t.now × (r leaving f'.now ≡ write_outcome t.now f.now))
writer-says = first-bytes (follows contracts.treefile-write (λ κs x r e s bytes. (bytes, s)))

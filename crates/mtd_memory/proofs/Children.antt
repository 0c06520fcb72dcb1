-- The child loop of a node, over its memory: what the rule gives over the children that are left, from the present
-- memory, is what it was to give over all of them from the first.
use Rattle.prelude.proofs.{ℕ, ◌≡◌, refl, sym, ap, ◌∙◌, subst, Bool, true, false, List, [], ◌++◌, append_assoc}
use Rattle.gametree.specs.declared.Side.{Side}
use Rattle.gametree.specs.{Tree, Children, last, ◌then◌, In, InChildren, settles, MemoChildren, PassChildren, joined}
use Rattle.gametree.specs.{pass_children, read_memo_children, KidsRemembered}
use Rattle.gametree_theory.proofs.Mtd.MemoArrays.{rest-same, visit-ended, visit-joined}
use Rattle.table.specs.{valuation}
use Rattle.certificate_bounds.specs.{marked}
use Rattle.mtd_memory.specs.{Memory, pass_of, Evaluated, Counted, Passed}
use Rattle.mtd_memory.proofs.Arrays.{evaluated-none, evaluated-more}

-- what the arrays remember of the children of a node
abbrev pub memo_children_of : Memory → (ks : Children) → MemoChildren ks
memo_children_of m ks = read_memo_children (marked m.evaluated) (marked m.not_below) ks

-- the pass over the children of a node
abbrev pub pass_children_of : List ℕ → ℕ → Side → Memory → (ks : Children) → PassChildren ks
pass_children_of t γ s m ks = pass_children (valuation t) γ s ks (memo_children_of m ks)

-- the arrays after a visit of the children hold the memory after the pass over them
abbrev pub Remembers : List ℕ → ℕ → Side → Children → Memory → Memory → Type 0
Remembers t γ s ks m m' =
    KidsRemembered (valuation t) γ s ks (marked m.evaluated) (marked m.not_below) (marked m'.evaluated)
    (marked m'.not_below)

-- what a visit of the children of a node does
pub record PassedChildren (t : List ℕ) (γ : ℕ) (s : Side) (ks : Children) (m m' : Memory) (b : Bool) : Type 0 where
  pub answer : b ≡ (pass_children_of t γ s m ks).not_below
  pub evaluated : Evaluated m m' (pass_children_of t γ s m ks).evaluated
  pub counted : Counted t m'
  pub memo : Remembers t γ s ks m m'

-- between two children: the memory m has become m', and the children `rest` are left
pub record Remainder (t : List ℕ) (γ : ℕ) (s : Side) (ks rest : Children) (m m' : Memory) : Type 0 where
  pub done : List ℕ
  pub so-far : Evaluated m m' done
  pub evaluated : (pass_children_of t γ s m ks).evaluated ≡ done ++ (pass_children_of t γ s m' rest).evaluated
  pub answer : (pass_children_of t γ s m ks).not_below ≡ (pass_children_of t γ s m' rest).not_below
  pub memo : (m'' : Memory) → Remembers t γ s rest m' m'' → Remembers t γ s ks m m''

-- before the first child all is owed
pub remainder-all : (t : List ℕ) (γ : ℕ) (s : Side) (ks : Children) (m : Memory) → Remainder t γ s ks ks m m
remainder-all t γ s ks m =
    record { done = []; so-far = evaluated-none _; evaluated = refl; answer = refl; memo = λ m'' v. v }

module _ {t : List ℕ} {γ : ℕ} {s : Side} {ks : Children} {m m' m'' : Memory} {T : Tree} {r : Bool}
    (p : Passed t T γ m' m'' r) where
  -- a child whose pass is that of all the children left ends the loop
  remainder-end : {rest : Children} → Remainder t γ s ks rest m m'
      → (pass_children_of t γ s m' rest).not_below ≡ (pass_of t γ m' T).not_below
      → (pass_children_of t γ s m' rest).evaluated ≡ (pass_of t γ m' T).evaluated → Remembers t γ s rest m' m''
      → PassedChildren t γ s ks m m'' r
  remainder-end o a w v =
      record {
        answer = p.answer ∙ sym a ∙ sym o.answer;
        evaluated =
            subst (Evaluated m m'')
            (sym (o.evaluated ∙ ap (λ l. o.done ++ l) w)) (evaluated-more o.so-far p.evaluated);
        counted = p.counted;
        memo = o.memo m'' v;
      }

  -- the last child's answer is the node's
  pub remainder-last : Remainder t γ s ks (last T) m m' → PassedChildren t γ s ks m m'' r
  remainder-last o = remainder-end o refl refl (record { got = p.memo.got; elsewhere = p.memo.elsewhere })

  module _ {ts : Children} (d : (k : ℕ) → In k T → InChildren k ts → ⊥) (o : Remainder t γ s ks (T then ts) m m') where
    -- so is that of a child that settles its parent
    pub remainder-settled : settles s r ≡ true → PassedChildren t γ s ks m m'' r
    remainder-settled h =
        let e = ap (settles s) (sym p.answer) ∙ h in
        remainder-end o (rw e) (rw e) (visit-ended (valuation t) γ s T ts d _ _ _ _ p.memo e)

    -- after another one its younger siblings are owed
    pub remainder-rest : settles s r ≡ false → Remainder t γ s ks ts m m''
    remainder-rest h =
        let e = ap (settles s) (sym p.answer) ∙ h in
        let w = (pass_of t γ m' T).evaluated in
        let on : pass_children_of t γ s m' (T then ts)
        ≡ joined T ts (pass_of t γ m' T) (pass_children_of t γ s m' ts) = rw e in
        let same = ap (λ x. pass_children (valuation t) γ s ts x)
        (sym (rest-same (valuation t) γ s T ts d _ _ _ _ p.memo)) in
        let next : (pass_children_of t γ s m' (T then ts)).evaluated ≡ w ++ (pass_children_of t γ s m'' ts).evaluated =
        ◌∙◌ {c = w ++ (pass_children_of t γ s m'' ts).evaluated} (ap (λ q. q.evaluated) on)
        (ap (λ q. w ++ q.evaluated) same) in
        record {
          done = o.done ++ w;
          so-far = evaluated-more o.so-far p.evaluated;
          evaluated = o.evaluated ∙ ap (λ l. o.done ++ l) next ∙ sym (append_assoc o.done w _);
          answer = o.answer ∙ ap (λ q. q.not_below) on ∙ ap (λ q. q.not_below) same;
          memo = λ m''' v. o.memo m''' (visit-joined (valuation t) γ s T ts d _ _ _ _ p.memo _ _ e v);
        }

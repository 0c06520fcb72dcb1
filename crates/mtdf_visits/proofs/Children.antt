-- The child loop of a node, over its memory: what the rule gives over the children that are left, after the leaves
-- evaluated by then, is what it was to give over all of them from the first.
use Rattle.prelude.proofs.{ℕ, ◌≡◌, refl, sym, ap, ◌∙◌, subst, Bool, true, false, List, [], ◌++◌, append_assoc}
use Rattle.gametree.specs.declared.Side.{Side}
use Rattle.gametree.specs.{Tree, Children, last, ◌then◌, settles, Tested, passed_on, test, test_children}
use Rattle.table.specs.{valuation}
use Rattle.mtdf_visits.specs.{Memory, so_far, Evaluated, Counted, VisitedBy}
use Rattle.mtdf_visits.proofs.Arrays.{evaluated-none, evaluated-more}

-- the test of the children of a node after the leaves evaluated so far
abbrev pub test_children_of : List ℕ → ℕ → Side → Memory → Children → Tested
test_children_of t γ s m ks = test_children (valuation t) γ (so_far m) s ks

-- what a test of the children of a node does
pub record DoneChildren (t : List ℕ) (γ : ℕ) (s : Side) (ks : Children) (m m' : Memory) (b : Bool) : Type 0 where
  pub answer : b ≡ (test_children_of t γ s m ks).not_below
  pub evaluated : Evaluated m m' (test_children_of t γ s m ks).evaluated
  pub counted : Counted t m'

-- between two children: the memory m has become m', and the children `rest` are left
pub record Remainder (t : List ℕ) (γ : ℕ) (s : Side) (ks rest : Children) (m m' : Memory) : Type 0 where
  pub done : List ℕ
  pub so-far : Evaluated m m' done
  pub evaluated : (test_children_of t γ s m ks).evaluated ≡ done ++ (test_children_of t γ s m' rest).evaluated
  pub answer : (test_children_of t γ s m ks).not_below ≡ (test_children_of t γ s m' rest).not_below

-- before the first child all is owed
pub remainder-all : (t : List ℕ) (γ : ℕ) (s : Side) (ks : Children) (m : Memory) → Remainder t γ s ks ks m m
remainder-all t γ s ks m = record { done = []; so-far = evaluated-none _; evaluated = refl; answer = refl }

module _ {t : List ℕ} {γ : ℕ} {s : Side} {ks : Children} {m m' m'' : Memory} {T : Tree} {r : Bool}
    (p : VisitedBy t T γ m' m'' r) where
  -- a child whose test is that of all the children left ends the loop
  remainder-end : {rest : Children} → Remainder t γ s ks rest m m'
      → test_children_of t γ s m' rest ≡ test (valuation t) γ (so_far m') T
      → DoneChildren t γ s ks m m'' r
  remainder-end o e =
      record {
        answer = p.answer ∙ ap (λ q. q.not_below) (sym e) ∙ sym o.answer;
        evaluated =
            subst (Evaluated m m'')
            (sym (o.evaluated ∙ ap (λ q. o.done ++ q.evaluated) e)) (evaluated-more o.so-far p.evaluated);
        counted = p.counted;
      }

  -- the last child's answer is the node's
  pub remainder-last : Remainder t γ s ks (last T) m m' → DoneChildren t γ s ks m m'' r
  remainder-last o = remainder-end o refl

  module _ {ts : Children} (o : Remainder t γ s ks (T then ts) m m') where
    -- so is that of a child that settles its parent
    pub remainder-settled : settles s r ≡ true → DoneChildren t γ s ks m m'' r
    remainder-settled h =
        let e = ap (settles s) (sym p.answer) ∙ h in
        remainder-end o (rw e)

    -- after another one its younger siblings are owed
    pub remainder-rest : settles s r ≡ false → Remainder t γ s ks ts m m''
    remainder-rest h =
        let e = ap (settles s) (sym p.answer) ∙ h in
        let q = test (valuation t) γ (so_far m') T in
        let on : test_children_of t γ s m' (T then ts)
        ≡ passed_on q (test_children (valuation t) γ (so_far m' ++ q.evaluated) s ts)
        = rw e in
        let next : test_children_of t γ s m' (T then ts) ≡ passed_on q (test_children_of t γ s m'' ts) =
        on ∙ ap (λ w. passed_on q (test_children (valuation t) γ w s ts)) (sym p.evaluated.listed) in
        record {
          done = o.done ++ q.evaluated;
          so-far = evaluated-more o.so-far p.evaluated;
          evaluated =
              o.evaluated ∙ ap (λ x. o.done ++ x.evaluated) next ∙ sym (append_assoc o.done q.evaluated _);
          answer = o.answer ∙ ap (λ x. x.not_below) next;
        }

-- Replies that are put into order, one line after another.
use Rattle.std.proofs.Common.{◌≡◌, ◌≢◌, ℕ, ◌+◌, ◌<◌, ◌≤◌, List, [], ◌∷◌, ◌++◌, Bool, true, false, cond, eqb, length, take, drop, set, map, get_or, Option, Some, None, refl, sym, subst, ap, ◌∙◌, arith, append_assoc, append-nil}
use Rattle.std.specs.List.{cons_option}
use Rattle.std.proofs.lemmas.Bool.{eqb-true, eqb-false, eq-eqb}
use Rattle.std.proofs.lemmas.List.{take_more, map-append, get_or_default, get_or-set_same, get_or-set_other, nil_from_length, drop_all}
use Rattle.std.proofs.lemmas.List.Elements.{filter_map-append}
use Rattle.std.proofs.lemmas.List.Sums.{sum_by-drop_more}
use Rattle.lst_walk.proofs.Lists.{take_whole}
use Rattle.lst_model.specs.declared.lines.Line.{Line}
use Rattle.lst_model.specs.declared.replies.Reply.{Reply}
use Rattle.lst_replies.specs.Runs.{speaker_of}
use Rattle.lst_work_laws.specs.Orders.{queue_of, replies_from}
use Rattle.lst_work.specs.Orders.{queue_at, lines_from, AreInOrder, IsOrdering}

-- ---- a reply that is taken

module _ (queues : List (List Reply)) (i : ℕ) (queue next : List Reply) (inside : i < length queues) where
  pub taken_first : (reply : Reply) → queue ≡ get_or queues i queue → queue ≡ reply ∷ next → queue_at queues i ≡ reply ∷ queue_at (set queues i next) i
  taken_first reply is e = get_or_default queues i [] queue inside ∙ (sym is ∙ (e ∙ ap (λ (rs : List Reply). reply ∷ rs) (sym (get_or-set_same queues i next [] inside))))

  pub taken_others : (other : ℕ) → other ≢ i → queue_at (set queues i next) other ≡ queue_at queues other
  taken_others other ne = get_or-set_other queues i other next [] ne

-- ---- the order so far

pub ordering_first : (sessions : ℕ) (lines : List Line) (queues : List (List Reply)) → ((queue : ℕ) → length (queue_at queues queue) ≡ lines_from sessions queue lines)
    → (out : List (Option ℕ × Reply)) → out ≡ [] → IsOrdering sessions lines queues queues out 0
ordering_first sessions lines queues long out none = subst (λ (o : List (Option ℕ × Reply)). IsOrdering sessions lines queues queues o 0) (sym none) record { speakers = refl; own = λ queue. refl; left = long }

module _ (sessions : ℕ) (lines : List Line) (before now : List (List Reply)) (out : List (Option ℕ × Reply)) (n : ℕ) (line : Line) (x : IsOrdering sessions lines before now out n) (inside : n < length lines) (is : line ≡ get_or lines n line) where
  abbrev at : ℕ
  at = queue_of sessions (speaker_of line)

  -- what is left of a queue, by whether the line's reply stands there
  left_by : (queue : ℕ) → length (queue_at now queue) ≡ cond (eqb at queue) 1 0 + lines_from sessions queue (drop (n + 1) lines)
  left_by queue = x.left queue ∙ (sum_by-drop_more (λ (l : Line). cond (eqb (queue_of sessions (speaker_of l)) queue) 1 0) lines n line inside
      ∙ ap (λ (l : Line). cond (eqb (queue_of sessions (speaker_of l)) queue) 1 0 + lines_from sessions queue (drop (n + 1) lines)) (sym is))

  pub one_left : 0 < length (queue_at now at)
  one_left = let e = left_by at ∙ ap (λ (b : Bool). cond b 1 0 + lines_from sessions at (drop (n + 1) lines)) (eq-eqb at at refl) in omega arith

  module _ (next : List (List Reply)) (reply : Reply) (first : queue_at now at ≡ reply ∷ queue_at next at) (others : (other : ℕ) → other ≢ at → queue_at next other ≡ queue_at now other) where
    own_by : (queue : ℕ) (b : Bool) → eqb at queue ≡ b → (replies_from sessions queue out ++ cond b (reply ∷ []) []) ++ queue_at next queue ≡ queue_at before queue
    own_by queue true e = append_assoc (replies_from sessions queue out) (reply ∷ []) (queue_at next queue)
        ∙ (ap (λ (rs : List Reply). replies_from sessions queue out ++ rs) (sym (subst (λ (q : ℕ). queue_at now q ≡ reply ∷ queue_at next q) (eqb-true at queue e) first)) ∙ x.own queue)
    own_by queue false e = let ne = eqb-false at queue e in
        ap (λ (rs : List Reply). rs ++ queue_at next queue) (append-nil (replies_from sessions queue out)) ∙ (ap (λ (rs : List Reply). replies_from sessions queue out ++ rs) (others queue (λ h. ne (sym h))) ∙ x.own queue)

    cons_is : (b : Bool) → cons_option (cond b (Some reply) None) [] ≡ cond b (reply ∷ []) []
    cons_is true = refl
    cons_is false = refl

    left_on : (queue : ℕ) (b : Bool) → eqb at queue ≡ b → length (queue_at next queue) ≡ lines_from sessions queue (drop (n + 1) lines)
    left_on queue true e =
        let h = left_by queue ∙ ap (λ (b : Bool). cond b 1 0 + lines_from sessions queue (drop (n + 1) lines)) e in
        let l = ap length (subst (λ (q : ℕ). queue_at now q ≡ reply ∷ queue_at next q) (eqb-true at queue e) first) in
        omega arith
    left_on queue false e =
        let h = left_by queue ∙ ap (λ (b : Bool). cond b 1 0 + lines_from sessions queue (drop (n + 1) lines)) e in
        let ne = eqb-false at queue e in let l = ap length (others queue (λ h. ne (sym h))) in omega arith

    pub ordering_on : IsOrdering sessions lines before next (out ++ (speaker_of line, reply) ∷ []) (n + 1)
    ordering_on = record {
      speakers = map-append (λ (r : Option ℕ × Reply). r.0) out ((speaker_of line, reply) ∷ [])
          ∙ (ap (λ (ss : List (Option ℕ)). ss ++ speaker_of line ∷ []) x.speakers
          ∙ (sym (map-append speaker_of (take n lines) (line ∷ [])) ∙ ap (map speaker_of) (ap (λ (l : Line). take n lines ++ l ∷ []) is ∙ sym (take_more lines n line inside))));
      own = λ queue. ap (λ (rs : List Reply). rs ++ queue_at next queue)
          (filter_map-append (λ (r : Option ℕ × Reply). cond (eqb (queue_of sessions r.0) queue) (Some r.1) None) out ((speaker_of line, reply) ∷ [])
          ∙ ap (λ (rs : List Reply). replies_from sessions queue out ++ rs) (cons_is (eqb at queue)))
          ∙ own_by queue (eqb at queue) refl;
      left = λ queue. left_on queue (eqb at queue) refl;
    }

  -- the same, as the program finds the line's session and its queue
  module _ (speaker : Option ℕ) (queue : ℕ) (spoken : speaker ≡ speaker_of line) (found : queue ≡ queue_of sessions speaker) where
    same : queue ≡ at
    same = found ∙ ap (queue_of sessions) spoken

    pub one_left_at : 0 < length (queue_at now queue)
    one_left_at = subst (λ (q : ℕ). 0 < length (queue_at now q)) (sym same) one_left

    pub ordering_then : (next : List (List Reply)) (reply : Reply) (longer : List (Option ℕ × Reply)) → longer ≡ out ++ (speaker, reply) ∷ [] → queue_at now queue ≡ reply ∷ queue_at next queue → ((other : ℕ) → other ≢ queue → queue_at next other ≡ queue_at now other)
        → IsOrdering sessions lines before next longer (n + 1)
    ordering_then next reply longer is_longer first others = subst (λ (o : List (Option ℕ × Reply)). IsOrdering sessions lines before next o (n + 1))
        (sym (is_longer ∙ ap (λ (s : Option ℕ). out ++ (s, reply) ∷ []) spoken))
        (ordering_on next reply (subst (λ (q : ℕ). queue_at now q ≡ reply ∷ queue_at next q) same first) (λ other ne. others other (λ e. ne (e ∙ same))))

-- ---- the whole

pub ordered : (sessions : ℕ) (lines : List Line) (before now : List (List Reply)) (out : List (Option ℕ × Reply)) (n : ℕ) → IsOrdering sessions lines before now out n → length lines ≤ n → AreInOrder sessions lines before out
ordered sessions lines before now out n x past = record {
  speakers = x.speakers ∙ ap (map speaker_of) (take_whole lines n past);
  own = λ queue. sym (append-nil (replies_from sessions queue out))
      ∙ (ap (λ (rs : List Reply). replies_from sessions queue out ++ rs) (sym (nil_from_length (queue_at now queue) (x.left queue ∙ ap (lines_from sessions queue) (drop_all n lines past)))) ∙ x.own queue);
}

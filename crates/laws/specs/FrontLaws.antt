-- Laws of the front of a list, and of lists with a part written over.
use Rattle.std.specs.Prelude.{◌+◌, ◌++◌, ◌-◌, ◌<◌, ◌∷◌, ◌≡◌, ◌≤◌}
use Rattle.laws.specs.Prelude.{List, [], add_assoc, add-one, add-zero, ap, append_assoc, append-nil, append_snoc, arith, dec_le, drop, drop-append-add, drop-append-le, drop_at, drop-drop, drop-length, drop_of_length-le, length, length-append, length-drop, length-take-le, min, refl, set, set_split, suc, sym, take, take_all, take-append-add, take-append-drop, take-append-le, take_at, take-length, take-set-le, zero-add, ℕ, ◌∙◌}
use Rattle.laws.specs.Front.{Wrote, laid, over}

-- up to the end of the list is as good as further
module _ {A : Type 0} (n : ℕ) (l : List A) where
  at_most_length : (f : ℕ → List A) → (length l ≤ n → f (length l) ≡ f n) → f (min n (length l)) ≡ f n
  at_most_length f past = go (dec_le n (length l))
    where
      go : Dec (n ≤ length l) → f (min n (length l)) ≡ f n
      go (yes h) = let e : min n (length l) ≡ n = omega arith in ap f e
      go (no h) = let e : min n (length l) ≡ length l = omega arith in ap f e ∙ past (omega arith)

  pub take_min : take (min n (length l)) l ≡ take n l
  take_min = at_most_length (λ k. take k l) (λ h. take-length l ∙ sym (take_all n l h))

  pub drop_min : drop (min n (length l)) l ≡ drop n l
  drop_min = at_most_length (λ k. drop k l) (λ h. drop-length l ∙ sym (drop_of_length-le l h))

module _ {A : Type 0} where
  pub laid_front : (out xs : List A) → laid out 0 xs ≡ over xs out
  unfolding laid over
  laid_front out xs = rw zero-add

  pub laid_none : (out : List A) (k : ℕ) → laid out k [] ≡ out
  unfolding laid
  laid_none out k = rw (append-nil, add-zero) (take-append-drop k out)

  pub length_laid : (out : List A) (k : ℕ) (text : List A) → k + length text ≤ length out → length (laid out k text) ≡ length out
  unfolding laid
  length_laid out k text h = simp (length-append, length-drop) (omega (arith, length-take-le k out (omega arith)))

  pub laid_laid :
      (out : List A) (k : ℕ) (s t : List A) → k + length s ≤ length out →
      laid (laid out k s) (k + length s) t ≡ laid out k (s ++ t)
  unfolding laid
  laid_laid out k s t h =
      let front : length (take k out ++ s) ≡ k + length s = simp length-append (omega (arith, length-take-le k out (omega arith))) in
      let kept = take k out ++ s in
      let rest = drop (k + length s) out in
      let behind : drop (k + length s + length t) (kept ++ rest) ≡ drop (k + length s + length t) out =
      ap (λ (n : ℕ). drop (n + length t) (kept ++ rest)) (sym front) ∙ drop-append-add kept rest (length t)
      ∙ drop-drop (length t) (k + length s) out in
      rw (take_at kept rest (k + length s) front, behind, length-append s t, ← append_assoc (take k out) s t) (rw add_assoc)

  -- in the first or in the second of two lists
  pub laid_left : (xs ys t : List A) (k : ℕ) → k + length t ≤ length xs → laid (xs ++ ys) k t ≡ laid xs k t ++ ys
  unfolding laid
  laid_left xs ys t k h =
      rw (take-append-le k xs ys (omega arith), drop-append-le (k + length t) xs ys h) (simp append_assoc)

  pub laid_right : (xs ys t : List A) (k : ℕ) → laid (xs ++ ys) (length xs + k) t ≡ xs ++ laid ys k t
  unfolding laid
  laid_right xs ys t k =
      rw (take-append-add xs ys k, add_assoc (length xs) k (length t), drop-append-add xs ys (k + length t)) (simp append_assoc)

  drop_set : (l : List A) (i : ℕ) (a : A) → i < length l → drop i (set l i a) ≡ a ∷ drop (suc i) l
  drop_set l i a h =
      rw (set_split l i a h) (drop_at (take i l) (a ∷ drop (suc i) l) i (length-take-le i l (omega arith)))

  pub laid_one : (out : List A) (k : ℕ) (b : A) → k < length out → set out k b ≡ laid out k (b ∷ [])
  unfolding laid
  laid_one out k b h = rw (set_split out k b h, add-one k, append_snoc)

  -- setting the element after s and then laying s down lays both down
  pub laid_last :
      (out : List A) (k : ℕ) (b : A) (s : List A) → k + length s < length out →
      laid (set out (k + length s) b) k s ≡ laid out k (s ++ b ∷ [])
  unfolding laid
  laid_last out k b s h =
      let i = k + length s in
      let place : k + length (s ++ b ∷ []) ≡ suc i = simp length-append (omega arith) in
      rw
      (take-set-le k out i b (omega arith), drop_set out i b h, laid, place, ← append_assoc (take k out) s (b ∷ []), append_snoc)

  -- xs at the front of what lies from place k on, which was lent as a list of its own, are laid at k
  pub laid_part :
      (out part xs : List A) (k : ℕ) → k ≤ length out → part ≡ over xs (take (length out - k) (drop k out)) →
      take k out ++ (part ++ drop (length out - k) (drop k out)) ≡ laid out k xs
  unfolding laid over
  laid_part out part xs k h e =
      let whole = take_all (length out - k) (drop k out) (omega (arith, length-drop k out)) in
      let none = drop_of_length-le (drop k out) {i = length out - k} (omega (arith, length-drop k out)) in
      rw (e, whole, none, append-nil, drop-drop (length xs) k out, append_assoc)

module _ {A : Type 0} {before after : List A} {k end : ℕ} {s : List A} where
  -- the room is as long as it was
  pub wrote_length : Wrote before k s end after → length after ≡ length before
  wrote_length p = ap length p.left ∙ length_laid before k s p.room

module _ {A : Type 0} {before middle after : List A} {k m end : ℕ} {s t : List A} where
  -- one text after another
  pub then : Wrote before k s m middle → Wrote middle m t end after → Wrote before k (s ++ t) end after
  then p q =
      let joined : k + length s + length t ≡ k + length (s ++ t) = simp (length-append, add_assoc) in
      let same = wrote_length p in
      record {
        room = omega (arith, joined, same, p.ends, q.room);
        ends = q.ends ∙ ap (λ (n : ℕ). n + length t) p.ends ∙ joined;
        left =
            q.left ∙ ap (λ (l : List A). laid l m t) p.left ∙ ap (λ (n : ℕ). laid (laid before k s) n t) p.ends
            ∙ laid_laid before k s t p.room;
      }

-- no text, and a text of one element
module _ {A : Type 0} (out : List A) (k : ℕ) where
  pub wrote_none : k ≤ length out → Wrote out k [] k out
  wrote_none h = record { room = omega arith; ends = sym (add-zero k); left = sym (laid_none out k) }

  pub wrote_one : (b : A) → k < length out → Wrote out k (b ∷ []) (k + 1) (set out k b)
  wrote_one b h = record { room = omega arith; ends = refl; left = laid_one out k b h }

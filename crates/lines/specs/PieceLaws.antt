-- Texts that are put together piece by piece, and loops that put one piece after the other.
use Rattle.std.specs.Prelude.{◌*◌, ◌+◌, ◌++◌, ◌<◌, ◌∷◌, ◌≡◌, ◌≤◌}
use Rattle.lines.specs.Prelude.{List, Wrote, [], add-one, append_assoc, append-nil, arith, ascii, get_or, length, refl, subst, sym, take, take_all, take-suc, text, then as wrote_then, wrote_length, ◌∙◌, wrote_none, ℕ}
use Rattle.lines.specs.Lines.{items}
use Rattle.lines.specs.Texts.{Puts}
use Rattle.lines.specs.declared.text.Text.{Text}

-- The text of a list is the piece of each element, one after the other.
pub record Pieces {A : Type 0} (piece : A → List ℕ) (whole : List A → List ℕ) : Type 0 where
  pub empty : whole [] ≡ []
  pub first : (x : A) (xs : List A) → whole (x ∷ xs) ≡ piece x ++ whole xs

-- The pieces of the first i elements were put, none longer than `most`.
pub record Putting {A : Type 0} (whole : List A → List ℕ) (l : List A) (most : ℕ) (before : Text) (i : ℕ) (after : Text) : Type 0 where
  pub puts : Puts before (whole (take i l)) after
  pub within : after.at ≤ before.at + most * i

-- one text after another
pub then : {s t : List ℕ} {before middle after : Text} → Puts before s middle → Puts middle t after → Puts before (s ++ t) after
then p q = record { same = q.same ∙ p.same; wrote = wrote_then p.wrote q.wrote }

module _ {A : Type 0} {piece : A → List ℕ} {whole : List A → List ℕ} (pieces : Pieces piece whole) where
  whole_append : (xs ys : List A) → whole (xs ++ ys) ≡ whole xs ++ whole ys
  whole_append [] ys = rw pieces.empty
  whole_append (x ∷ xs) ys =
      rw (pieces.first x (xs ++ ys), pieces.first x xs, whole_append xs ys, append_assoc (piece x) (whole xs) (whole ys))

  -- with one element more there is one piece more
  whole_more : (l : List A) (i : ℕ) (d : A) → i < length l → whole (take (i + 1) l) ≡ whole (take i l) ++ piece (get_or l i d)
  whole_more l i d h =
      rw (add-one i, take-suc l i d h, whole_append (take i l) (get_or l i d ∷ []), pieces.first (get_or l i d) [], pieces.empty, append-nil)

  -- nothing is put yet
  pub putting_none : (l : List A) (most : ℕ) (before : Text) → before.at ≤ length before.out.now → Putting whole l most before 0 before
  putting_none l most before h =
      record {
        puts = record {
          same = refl;
          wrote = subst (λ (s : List ℕ). Wrote before.out.now before.at s before.at before.out.now) (sym pieces.empty) (wrote_none before.out.now before.at h);
        };
        within = omega arith;
      }

  -- the piece of the next element was put
  pub putting_more :
      {l : List A} {most : ℕ} {before now next : Text} {i : ℕ} {x : A} (d : A) → i < length l → get_or l i d ≡ x →
      Putting whole l most before i now → Puts now (piece x) next → next.at ≤ now.at + most → Putting whole l most before (i + 1) next
  putting_more {l = l} {i = i} d h here p w bound =
      record {
        puts = rw (whole_more l i d h, here) (then p.puts w);
        within = omega (arith, p.within, bound);
      }

module _ {A : Type 0} {whole : List A → List ℕ} {l : List A} {most : ℕ} {before after : Text} {i : ℕ} (p : Putting whole l most before i after) where
  -- the buffer is as long as it was
  pub putting_length : length after.out.now ≡ length before.out.now
  putting_length = wrote_length p.puts.wrote

  -- all were put
  pub putting_all : length l ≤ i → Puts before (whole l) after
  putting_all h = subst (λ (xs : List A). Puts before (whole xs) after) (take_all i l h) p.puts

-- a number after a space is a piece of items
pub item_pieces : Pieces (λ n. ascii " " ++ text n) items
unfolding items
item_pieces = record { empty = refl; first = λ n ns. refl }

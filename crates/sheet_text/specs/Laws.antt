-- What holds of the text of a sheet, as statements; proofs/Laws.antt has their proofs. Definitions only. Assumes nothing.
use Rattle.std.specs.Prelude.{ℕ, ◌^◌, ◌≤◌, ◌<◌, ◌≡◌, true, List, [], ◌∷◌, length, Float}
use Rattle.std.specs.Float.{binary64}
use Rattle.model.specs.Lines.{first_of}
use Rattle.model.specs.Form.{position}
use Rattle.model.specs.Move.{Moved, move_line, move_call}
use Rattle.model.specs.Text.{Request, text_of, InBounds, request_of, laid_out, numbers, words_of, printed_move, printed, answer_line, sheet_of}
use Rattle.laws_shape.specs.Numbers.{InFormat}

-- a text is that of one request at most
abbrev pub OneRequest : Type 0
OneRequest = (q r : Request) → InBounds q → InBounds r → text_of q ≡ text_of r → q ≡ r

-- A request is found exactly where the text is the printing of one: the text of a request in bounds is laid out and taken to say that
-- request, and a text that is laid out is that of a request in bounds.
abbrev pub FoundExactly : Type 0
FoundExactly =
    ((r : Request) → InBounds r → (laid_out (text_of r) ≡ true) × (request_of (text_of r) ≡ r))
    × ((s : List ℕ) → laid_out s ≡ true → InBounds (request_of s) × (s ≡ text_of (request_of s)))

-- So the sheet of a text is what is printed for the request whose text it is,
abbrev pub SheetOfRequest : Type 0
SheetOfRequest = (r : Request) → InBounds r → sheet_of (text_of r) ≡ printed r

-- and the answer 1 where it is the text of none.
abbrev pub SheetOfNone : Type 0
SheetOfNone = (s : List ℕ) → ((r : Request) → InBounds r → s ≡ text_of r → ⊥) → sheet_of s ≡ answer_line 1

-- a request with the words that are printed for a form and a factor
abbrev pub sent_back : ℕ → ℕ → ℕ → List Float → List Float → Request
sent_back n from to xs ys = record { n = n; from = from; to = to; form = words_of xs; factor = words_of ys }

-- A round trip: what is printed for a form and a factor of at most 32 rows may be sent back in, and is then read as that form and that factor.
abbrev pub RoundTrip : Type 0
RoundTrip =
    (n from to : ℕ) (xs ys : List Float) → n < 10 ^ 4 → from < 10 ^ 4 → to < 10 ^ 4 → InFormat binary64 xs → InFormat binary64 ys → length xs ≤ 1024 → length ys ≤ 1024
    → InBounds (sent_back n from to xs ys)
    × ((q : Request) → InBounds q → text_of q ≡ text_of (sent_back n from to xs ys) → (numbers q.form ≡ xs) × (numbers q.factor ≡ ys))

-- ---- the words of a sheet in the next request

-- the move of a request
abbrev pub move_of : Request → Moved
move_of r = move_call binary64 r.n r.n (numbers r.form) (numbers r.factor) r.from r.to

-- After a move m, the words that are printed for its form and factor may be sent in, with the same n and two positions: the sheet of that text is the move of the form and the factor as m left them, and no line but 7, for a position, turns it away.
pub record GoesOn (n : ℕ) (m : Moved) (from to : ℕ) : Type 0 where
  pub in_bounds : InBounds (sent_back n from to m.form m.factor)
  pub sheet : sheet_of (text_of (sent_back n from to m.form m.factor)) ≡ printed_move (move_call binary64 n n m.form m.factor from to)
  pub own : move_line binary64 n n m.form m.factor from to ≡ first_of (position n from ∷ position n to ∷ [])

-- After every accepted move of at most 32 rows, whose sheet has these words, and with positions below 10,000. So it goes on, request after request.
abbrev pub SheetsGoOn : Type 0
SheetsGoOn = (r : Request) (from to : ℕ) → r.n ≤ 32 → (move_of r).answer ≡ 0 → from < 10 ^ 4 → to < 10 ^ 4 → GoesOn r.n (move_of r) from to

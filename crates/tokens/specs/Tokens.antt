-- Helpers: a word byte by byte; the first token of a text as the scanner gives it, and the tokens from a place on. The
-- contract of `next` ties both to the model's `tokens`, and the contract of `word_of` a word to its `tidy`.
use Rattle.std.specs.Prelude.{Bool, false, ◌&&◌, ◌||◌, not, List, [], ◌∷◌, ℕ, ◌+◌, eqb, take, drop, if◌then◌else◌}
use Rattle.std.proofs.Math.Seq.{slice}
use Rattle.model.specs.Basic.{run}
use Rattle.model.specs.Keywords.{END}
use Rattle.model.specs.Tokens.{is_underscore, is_name_byte, starts, tidy, Token as ModelToken, token, Piece as ModelPiece, piece, scan}
use Rattle.tokens.specs.declared.Token.{Token}
use Rattle.tokens.specs.declared.Piece.{Piece}

-- a letter or a digit
abbrev pub is_plain : ℕ → Bool
is_plain c = is_name_byte c && not (is_underscore c)

-- the first byte is one of a word that is tidy so far
abbrev pub goes_on : List ℕ → Bool
goes_on [] = false
goes_on (c ∷ s) = is_plain c || (is_underscore c && starts is_plain s)

-- whether the word at the start is tidy
unfoldable pub tidy_word : List ℕ → Bool
tidy_word s = tidy (take (run is_name_byte s) s)

unfoldable pub tokens_from : List ℕ → ℕ → List ModelToken
tokens_from s at = scan 0 at (drop at s)

abbrev pub token_of : List ℕ → Token → ModelToken
token_of s t = token t.kind (slice t.start t.end s) t.start

-- a token of the part from p on, as one of the text
abbrev pub behind : ℕ → Token → Token
behind p t = record { kind = t.kind; start = p + t.start; end = p + t.end }

-- the tokens behind t
unfoldable pub after : List ℕ → Token → List ModelToken
after s t = if eqb t.kind END then [] else tokens_from s t.end

abbrev pub piece_of : Piece → ModelPiece
piece_of p = piece p.kind p.more

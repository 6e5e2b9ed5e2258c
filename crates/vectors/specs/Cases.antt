-- Known answers: the value that the definitions give for a case, and the answer to a table of
-- cases.
use Rattle.std.specs.Prelude.{◌≡◌, ℕ, ◌+◌, List, [], ◌∷◌, ◌++◌, length, Bool, false, not, Option}
use Rattle.std.specs.Prelude.{Some, None, Result, Ok, Err, MatchResult, All, position}
use Rattle.std.specs.Prelude.{if◌then◌else◌}
use Rattle.std.specs.Int.{w16, to_be_bytes}
use Rattle.std.specs.Str.{bytes_eq}
use Rattle.rtu_frame.specs.Crc.{crc_rtu}
use Rattle.rtu_frame.specs.Frame.{is_frame}
use Rattle.dnp_link_frame.specs.Beginnings.{user_in}
use Rattle.dnp_link_frame.specs.Blocks as dnp
use Rattle.dnp_link_frame.specs.Crc.{crc_dnp}
use Rattle.link_format.specs.Tag.{hmac_sha1, hmac_sha1_96, hmac_sha256}
use Rattle.vectors.specs.declared.table.Case.{Case}
use Rattle.vectors.specs.declared.table.CaseKind.{CaseKind}
use Rattle.vectors.specs.declared.table.CaseKind.TheVariants.{Crc16, CrcDnp, HmacSha1, HmacSha196}
use Rattle.vectors.specs.declared.table.CaseKind.TheVariants.{HmacSha256}
use Rattle.vectors.specs.declared.table.CaseKind.TheVariants.{RtuFrame, DnpFrame, DnpUser}
use Rattle.vectors.specs.declared.table.Miss.{Miss}

-- the case of this kind with this key, text and wanted bytes
abbrev pub case_of : CaseKind → List ℕ → List ℕ → List ℕ → Case
case_of kind key text want =
    record {
      kind = kind;
      key = record { items = key };
      text = record { items = text };
      want = record { items = want };
    }

-- one byte: 1 for yes, 0 for no
abbrev pub truth : Bool → List ℕ
truth holds = (if holds then 1 else 0) ∷ []

-- the user data of a text that is a frame of DNP3; other texts have none
abbrev pub user_of : List ℕ → Option (List ℕ)
user_of text = if dnp.is_frame text then Some (user_in text) else None

-- the value that the definitions give: a CRC with its high byte first, an HMAC-SHA-1, one cut to 12
-- bytes, an HMAC-SHA-256, a byte that says whether the text is a frame, or the user data of a frame
abbrev pub value_by : CaseKind → List ℕ → List ℕ → Option (List ℕ)
value_by Crc16 key text = Some (to_be_bytes w16 (crc_rtu text))
value_by CrcDnp key text = Some (to_be_bytes w16 (crc_dnp text))
value_by HmacSha1 key text = Some (hmac_sha1 key text)
value_by HmacSha196 key text = Some (hmac_sha1_96 key text)
value_by HmacSha256 key text = Some (hmac_sha256 key text)
value_by RtuFrame key text = Some (truth (is_frame text))
value_by DnpFrame key text = Some (truth (dnp.is_frame text))
value_by DnpUser key text = user_of text

-- the value that the definitions give for a case, if there is one
abbrev pub case_value_of : Case → Option (List ℕ)
case_value_of case = value_by case.kind case.key.items case.text.items

-- Holds if the definitions give the wanted value.
abbrev pub IsRight : Case → Type 0
IsRight case = case_value_of case ≡ Some case.want.items

-- whether there is a value, and it has these bytes
abbrev pub has_bytes : Option (List ℕ) → List ℕ → Bool
has_bytes None bytes = false
has_bytes (Some value) bytes = bytes_eq value bytes

-- whether `IsRight` holds, as a function
abbrev pub is_right : Case → Bool
is_right case = has_bytes (case_value_of case) case.want.items

-- Holds if `row`, counted from 1, is the first of the cases that isn't right.
pub record IsFirstMiss (cases : List Case) (row : ℕ) : Type 0 where
  pub before : List Case
  pub miss : Case
  pub after : List Case
  pub whole : cases ≡ before ++ miss ∷ after
  pub right : All IsRight before
  pub wrong : ¬ IsRight miss
  pub counted : row ≡ length before + 1

-- Holds if the result is the answer to a table: every case is right, or the row that is given,
-- counted from 1, is the first that isn't.
abbrev pub IsAnswer : List Case → Result (Unit {0}) Miss → Type 0
IsAnswer cases result = MatchResult result (λ _. All IsRight cases)
    (λ miss. IsFirstMiss cases miss.row)

-- the answer to a table, by how many cases come before the first one that isn't right, or `None` if
-- all are right
abbrev pub case_answer_at : Option ℕ → Result (Unit {0}) Miss
case_answer_at None = Ok tt
case_answer_at (Some before) = Err (record { row = before + 1 })

-- the answer to a table as a function: it satisfies `IsAnswer`, and no other result does
unfoldable pub answer : List Case → Result (Unit {0}) Miss
answer cases = case_answer_at (position (λ case. not (is_right case)) cases)

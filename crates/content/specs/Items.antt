-- A tuple by itself: its content, the rules that it keeps alone, and what it says to the other tuples. Assumes nothing.
use Rattle.std.specs.Prelude.{ℕ, ◌+◌, ◌-◌, Bool, true, false, not, List, [], ◌∷◌, ◌++◌, eqb, length, get_or}
use Rattle.std.proofs.Math.Option.{Option, some, none}
use Rattle.rules.specs.Rules.{Rule, ◌⇒◌}
use Rattle.layout.specs.declared.Says.{Says}
use Rattle.layout.specs.declared.Says.TheVariants.{Nothing, Sounder, Channel, Names, NamesOrAll}
use Rattle.layout.specs.Fields.{Field, s, c, size}
use Rattle.layout.specs.Types
use Rattle.layout.specs.Types.{Shape, indexed, row, uncompressed, compressed, unlisted, shape_of, lengths_of, says_of, fitting, in_class}
use Rattle.layout.specs.Answers.{Breach, ◌byte◌}
use Rattle.turning.specs.Rows.{Value, number, text, values_of, identified}
use Rattle.frame.specs.Frames.{Tup, length_of}
use Rattle.samples.specs.Judging.{sample_rules, word_rules}
use Rattle.links.specs.Links.{Link, Digest, nothing}
use Rattle.links.specs.Links
use Rattle.content.specs.Pings.{Ping, words_in, count_in, content_u, content_c}

-- ---- content: each tuple with type, attribute and fields, where the pings of a family count as one type
pub data Item : Type 0 where
  plain : ℕ → List Value → Item  -- a type code, and the values of its row, the attribute the last
  ping : Ping → Item
  raw : ℕ → List ℕ → Item  -- an unlisted type code, and the raw data

-- a row with its characters, of m bytes of data, and its attribute
abbrev pub row_in : List Field → Option ℕ → ℕ → List Field
row_in fs none m = fs ++ (s 4 ∷ [])
row_in fs (some least) m = fs ++ (c (m - (size fs + 4)) ∷ s 4 ∷ [])

-- index-class tuples are no content
abbrev pub item_by : Shape → Bool → Tup → Option Item
item_by indexed o t = none
item_by (row fs x) o t = some (plain t.kind (values_of o (row_in fs x (length t.body)) t.body))
item_by (uncompressed f) o t = some (ping (content_u f o t.body))
item_by (compressed f) o t = some (ping (content_c f o t.body))
item_by unlisted o t = some (raw t.kind t.body)

unfoldable pub item_of : Bool → Tup → Option Item
item_of o t = item_by (shape_of t.kind) o t

-- ---- the rules that a tuple keeps alone
-- each identifier of a row is one that may be read
abbrev pub identified_by : Shape → Bool → Tup → Bool
identified_by indexed o t = true
identified_by (row fs x) o t = identified o (row_in fs x (length t.body)) t.body
identified_by (uncompressed f) o t = true
identified_by (compressed f) o t = true
identified_by unlisted o t = true

-- 9: length unfit for a listed type; 8: identifier is neither 44204 nor 44201
abbrev pub head_rules : Bool → Tup → List (Rule Breach)
head_rules o t =
    (not (fitting (lengths_of t.kind) (length_of t)) ⇒ 9 byte 0)
    ∷ (not (identified_by (shape_of t.kind) o t) ⇒ 8 byte 0)
    ∷ []

-- those of its samples: 11, 23 of an uncompressed ping's; 11, 24, 25 of a compressed one's words
abbrev pub inner_by : Shape → Bool → Tup → List (Rule Breach)
inner_by indexed o t = []
inner_by (row fs x) o t = []
inner_by (uncompressed f) o t = sample_rules f (content_u f o t.body).samples
inner_by (compressed f) o t = word_rules f (count_in o t.body) (words_in f o t.body)
inner_by unlisted o t = []

abbrev pub inner_rules : Bool → Tup → List (Rule Breach)
inner_rules o t = inner_by (shape_of t.kind) o t

-- ---- what a tuple says to the others, by its content alone
-- the number at a place of a list of values
abbrev pub as_number : Value → ℕ
as_number (number n) = n
as_number (text t) = 0

abbrev pub number_at : List Value → ℕ → ℕ
number_at vs i = as_number (get_or vs i (number 0))

-- an attitude's 65535 means all channels
abbrev pub unless : Bool → Link → Link
unless true l = Links.none
unless false l = l

-- by what its type says, of the values of its row: a maker's sounder, with its number of channels and document identifier; a maker's
-- channel, with its software channel, document identifier, sampling rate and type of data sample; the software channel that is named,
-- behind time fraction and time
abbrev pub link_by : Says → List Value → Link
link_by Nothing vs = Links.none
link_by (Sounder m) vs = Links.sounder (record { doc = record { 0 = number_at vs 1 }; says = number_at vs 0; maker = m })
link_by (Channel m) vs =
    Links.channel (record {
      id = record { 0 = number_at vs 0 };
      parent = record { 0 = number_at vs 1 };
      rate = number_at vs 2;
      samples = number_at vs 3;
      maker = m;
    })
link_by Names vs = Links.names (record { 0 = number_at vs 2 })
link_by NamesOrAll vs = unless (eqb (number_at vs 2) 65535) (Links.names (record { 0 = number_at vs 2 }))

-- the classes are those of the type code, listed or not
abbrev pub classed : ℕ → Bool → Bool → Link → Digest
classed k signs ends l =
    record {
      signs = signs;
      ends = ends;
      position = in_class Types.position k;
      sounder = in_class Types.sounder k;
      channel = in_class Types.channel k;
      ping = in_class Types.ping k;
      link = l;
    }

-- a ping's row is its header
unfoldable pub digest_of : Item → Digest
digest_of (plain k vs) = classed k (eqb k 65535) (eqb k 65534) (link_by (says_of k) vs)
digest_of (ping p) =
    record {
      signs = false;
      ends = false;
      position = false;
      sounder = false;
      channel = false;
      ping = true;
      link = link_by Names p.head;
    }
digest_of (raw k d) = classed k false false Links.none

abbrev pub digest_item : Option Item → Digest
digest_item none = nothing
digest_item (some i) = digest_of i

abbrev pub digest : Bool → Tup → Digest
digest o t = digest_item (item_of o t)

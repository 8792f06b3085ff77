-- The static table (RFC 7541, Appendix A): "Indexes 1 to 61 are static."
use Rattle.std.specs.Prelude.{ℕ, zero, suc, ◌+◌, ◌-◌, List, [], ◌∷◌, ◌++◌, length, get_or}
use Prim.Native.String.{String}
use Rattle.statics.specs.Ascii.{bytes}
use Rattle.statics.specs.declared.table.StaticPlace.{StaticPlace}

-- an entry: a name and a value
pub record Entry : Type 0 where
  pub name : List ℕ
  pub value : List ℕ

abbrev entry : String → String → Entry
entry name value = record { name = bytes name; value = bytes value }

abbrev pub last_static : ℕ
last_static = 61

-- the 61 entries in the order of their indexes, from 1
unfoldable pub entries : List Entry
entries =
    entry ":authority" "" ∷
    entry ":method" "GET" ∷
    entry ":method" "POST" ∷
    entry ":path" "/" ∷
    entry ":path" "/index.html" ∷
    entry ":scheme" "http" ∷
    entry ":scheme" "https" ∷
    entry ":status" "200" ∷
    entry ":status" "204" ∷
    entry ":status" "206" ∷
    entry ":status" "304" ∷
    entry ":status" "400" ∷
    entry ":status" "404" ∷
    entry ":status" "500" ∷
    entry "accept-charset" "" ∷
    entry "accept-encoding" "gzip, deflate" ∷
    entry "accept-language" "" ∷
    entry "accept-ranges" "" ∷
    entry "accept" "" ∷
    entry "access-control-allow-origin" "" ∷
    entry "age" "" ∷
    entry "allow" "" ∷
    entry "authorization" "" ∷
    entry "cache-control" "" ∷
    entry "content-disposition" "" ∷
    entry "content-encoding" "" ∷
    entry "content-language" "" ∷
    entry "content-length" "" ∷
    entry "content-location" "" ∷
    entry "content-range" "" ∷
    entry "content-type" "" ∷
    entry "cookie" "" ∷
    entry "date" "" ∷
    entry "etag" "" ∷
    entry "expect" "" ∷
    entry "expires" "" ∷
    entry "from" "" ∷
    entry "host" "" ∷
    entry "if-match" "" ∷
    entry "if-modified-since" "" ∷
    entry "if-none-match" "" ∷
    entry "if-range" "" ∷
    entry "if-unmodified-since" "" ∷
    entry "last-modified" "" ∷
    entry "link" "" ∷
    entry "location" "" ∷
    entry "max-forwards" "" ∷
    entry "proxy-authenticate" "" ∷
    entry "proxy-authorization" "" ∷
    entry "range" "" ∷
    entry "referer" "" ∷
    entry "refresh" "" ∷
    entry "retry-after" "" ∷
    entry "server" "" ∷
    entry "set-cookie" "" ∷
    entry "strict-transport-security" "" ∷
    entry "transfer-encoding" "" ∷
    entry "user-agent" "" ∷
    entry "vary" "" ∷
    entry "via" "" ∷
    entry "www-authenticate" "" ∷
    []

-- the entry with index i
unfoldable pub entry_at : ℕ → Entry
entry_at i = get_or entries (i - 1) (entry "" "")

abbrev pub static_name : ℕ → List ℕ
static_name i = (entry_at i).name

abbrev pub static_value : ℕ → List ℕ
static_value i = (entry_at i).value

-- names and values one after another
unfoldable pub text_of : List Entry → List ℕ
text_of [] = []
text_of (e ∷ es) = e.name ++ (e.value ++ text_of es)

-- the static text, of which names found by index are parts
unfoldable pub static_text : List ℕ
static_text = text_of entries

-- where the entry after i others stands, if the text before it all ends at the place at
unfoldable pub place_in : List Entry → ℕ → ℕ → StaticPlace
place_in [] at i = record { start = 0; name = 0; value = 0 }
place_in (e ∷ es) at zero = record { start = at; name = length e.name; value = length e.value }
place_in (e ∷ es) at (suc i) = place_in es (at + (length e.name + length e.value)) i

-- where the entry with index i stands in the static text
unfoldable pub place_of : ℕ → StaticPlace
place_of i = place_in entries 0 (i - 1)

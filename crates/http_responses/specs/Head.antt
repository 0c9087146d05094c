-- The head of a response (RFC 9112, sections 4 to 6; which fields there are is this project's own choice).
use Rattle.std.specs.Prelude.{ℕ, ◌==◌, Bool, List, [], ◌∷◌, ◌++◌, codes, decimal, if◌then◌else◌, Option, Some, None}
use Rattle.std.specs.List.{list_any}
use Rattle.http_routes.specs.Methods.{allow}
use Rattle.http_routes.specs.declared.Resource.{Resource}

-- the statuses that responses have, and what each says (RFC 9110, section 15, but for 413 and 422, which have the
-- older phrases of RFC 7231 and RFC 4918)
abbrev pub phrases : List (ℕ × List ℕ)
phrases =
    (200, codes "OK")
    ∷ (400, codes "Bad Request")
    ∷ (401, codes "Unauthorized")
    ∷ (403, codes "Forbidden")
    ∷ (404, codes "Not Found")
    ∷ (405, codes "Method Not Allowed")
    ∷ (409, codes "Conflict")
    ∷ (413, codes "Payload Too Large")
    ∷ (422, codes "Unprocessable Entity")
    ∷ (431, codes "Request Header Fields Too Large")
    ∷ (500, codes "Internal Server Error")
    ∷ (501, codes "Not Implemented")
    ∷ (503, codes "Service Unavailable")
    ∷ []

-- whether a response may have the status
abbrev pub has_phrase : ℕ → Bool
has_phrase status = list_any (λ entry. status == entry.0) phrases

-- the phrase under a status, empty if there is none
abbrev pub phrase_in : List (ℕ × List ℕ) → ℕ → List ℕ
phrase_in [] status = []
phrase_in (entry ∷ entries) status = if status == entry.0 then entry.1 else phrase_in entries status

unfoldable pub phrase : ℕ → List ℕ
phrase status = phrase_in phrases status

abbrev pub line_end : List ℕ
line_end = codes "\r\n"

-- the version, the status and its phrase
unfoldable pub status_line : ℕ → List ℕ
status_line status = codes "HTTP/1.1 " ++ (decimal status ++ (codes " " ++ (phrase status ++ line_end)))

-- what the body's form and its length in bytes are
unfoldable pub content_fields : ℕ → List ℕ
content_fields size = codes "content-type: application/json\r\ncontent-length: " ++ (decimal size ++ line_end)

-- the next method of a list, after what parts it from those before it
abbrev pub listed_next : Bool → List ℕ → List ℕ
listed_next is_first method = if is_first then method else codes ", " ++ method

-- the methods of a resource, if there is one
abbrev pub allow_of : Option Resource → List ℕ
allow_of None = []
allow_of (Some resource) = allow resource

-- the field that a status asks for: the methods that a path has, or the scheme by which a caller is known
unfoldable pub own_field : ℕ → List ℕ → List ℕ
own_field status allow =
    if status == 405 then codes "allow: " ++ (allow ++ line_end)
    else (if status == 401 then codes "www-authenticate: Bearer\r\n"
    else [])

-- nothing more comes after this response
unfoldable pub close_field : Bool → List ℕ
close_field closes = if closes then codes "connection: close\r\n" else []

-- the lines before a body of so many bytes
abbrev pub head : ℕ → List ℕ → Bool → ℕ → List ℕ
head status allow closes size =
    status_line status ++ (content_fields size ++ (own_field status allow ++ (close_field closes ++ line_end)))

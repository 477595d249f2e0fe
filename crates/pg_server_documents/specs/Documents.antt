-- Open documents.
use Rattle.std.specs.Prelude.{ℕ, List, Option, Some, None, true}
use Rattle.std.specs.HashMap.{get_by_text}
use Rattle.pg_server_documents.specs.declared.document.Document.{Document}
use Rattle.pg_server_documents.specs.declared.documents.Documents.{Documents}

-- the document that is open under a URI, if there is one
abbrev pub document_at : Documents → List ℕ → Option Document
document_at documents uri = get_by_text documents.by_uri uri

-- the document, if there is one, of which the client is told
abbrev pub told : Option Document → Option Document
told None = None
told (Some document) = Some (record document { is_told = true })

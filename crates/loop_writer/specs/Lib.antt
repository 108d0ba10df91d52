-- What the contracts of the writer cite, beside the model.
pub mod Answer
pub mod Buffer
pub mod Ranges
pub mod Promises

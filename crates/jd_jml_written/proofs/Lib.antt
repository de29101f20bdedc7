mod CaseParts

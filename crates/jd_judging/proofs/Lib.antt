mod Parameters
